pub mod Differences
pub mod Codes
pub mod Records
pub mod Rows
