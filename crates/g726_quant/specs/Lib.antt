pub mod Arithmetic
pub mod Tables
pub mod Blocks
pub mod Laws
