pub mod Device
pub mod System
pub mod Pieces
pub mod Bodies
pub mod Clients
pub mod Multiframes
pub mod KnownOctets
