pub mod Search
pub mod Loss
pub mod Shown
pub mod Mover
