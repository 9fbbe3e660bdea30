pub mod Filters
pub mod Outgoing
pub mod Frames
pub mod Receiving
pub mod Dropping
pub mod Trunk
