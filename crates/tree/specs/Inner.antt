pub mod Seen
pub mod Loads
pub mod Find
