pub mod Runs
pub mod Steps
pub mod Incoming
pub mod Seizure
pub mod Callers
