pub mod Retained
pub mod Inner
