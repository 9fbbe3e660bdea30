pub mod CheckpointOctets
pub mod Cuts
pub mod Keeping
mod Rows
mod Filling
mod Replaying
mod Resumed
mod Configured
mod Disks
mod Starting
mod Lives
mod ResumingRows
