pub mod Calls
pub mod Replacement
pub mod Plays
pub mod Standing
pub mod Laws
