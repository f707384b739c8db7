pub mod Counts
pub mod CountsBytes
pub mod Inner
