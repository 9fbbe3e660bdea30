pub mod Passing
pub mod Cutting
pub mod Placing
pub mod Standing
mod Thinning
mod Rows
pub mod KnownOctets
pub mod Noting
