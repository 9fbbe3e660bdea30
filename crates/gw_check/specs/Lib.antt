pub mod Sessions
pub mod Listing
pub mod Continuing
