pub mod Fold
pub mod Call
pub mod Inner
