pub mod Numbers
pub mod Search
pub mod Loss
pub mod Placing
pub mod Aligner
pub mod Saved
