pub mod Calls
pub mod Opening
pub mod Receiving
pub mod Noting
pub mod Looks
pub mod Resting
