pub mod Repetition
pub mod Ports
pub mod Words
