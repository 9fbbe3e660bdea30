pub mod Filter
pub mod Align
pub mod Crc4
pub mod Check
pub mod Reports
