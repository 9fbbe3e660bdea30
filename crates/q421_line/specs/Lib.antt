pub mod Recognition
pub mod Tables
pub mod Commands
pub mod Signalling
pub mod Line
pub mod Laws
pub mod Saved
