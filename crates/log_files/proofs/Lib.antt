pub mod Checksums
pub mod Heads
pub mod Known
pub mod Logs
pub mod Writes
pub mod AreasRead
