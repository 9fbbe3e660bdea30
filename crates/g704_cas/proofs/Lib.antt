pub mod Searches
pub mod Wrongs
pub mod Steps
pub mod Standing
pub mod LeastSearch
pub mod Callers
