pub mod Adler
pub mod Area
pub mod Files
pub mod Loading
pub mod Pairs
pub mod Stores
