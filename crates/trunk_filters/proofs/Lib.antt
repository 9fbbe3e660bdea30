pub mod Returned
pub mod Frames
pub mod Receives
pub mod Drops
pub mod Inputs
mod Filtered
