pub mod Continuing
pub mod Recovering
