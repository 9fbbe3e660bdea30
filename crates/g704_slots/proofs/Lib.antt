pub mod Wholes
pub mod Losses
pub mod Framing
pub mod Spans
pub mod Steps
pub mod Searches
pub mod Memories
pub mod Standing
