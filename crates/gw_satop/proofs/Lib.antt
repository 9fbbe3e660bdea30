pub mod Packets
pub mod Ones
pub mod Arriving
pub mod Turning
pub mod FarEnd
pub mod Counting
