pub mod Seek
pub mod Advance
pub mod Inner
