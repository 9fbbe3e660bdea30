pub mod Searches
pub mod Wrongs
pub mod Steps
pub mod Standing
pub mod FirstFas
pub mod Callers
pub mod Rest
