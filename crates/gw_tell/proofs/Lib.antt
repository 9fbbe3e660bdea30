pub mod Alike
pub mod Reporting
pub mod Sending
pub mod Letting
pub mod Rows
