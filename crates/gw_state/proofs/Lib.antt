pub mod Sums
pub mod Lengths
pub mod Setups
mod Continuing
