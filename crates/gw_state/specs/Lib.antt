pub mod Layout
pub mod Loaded
pub mod Laws
pub mod Faults
pub mod Memory
