pub mod Tolerance
pub mod Grounds
pub mod Inner
