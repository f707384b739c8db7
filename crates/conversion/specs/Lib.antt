pub mod Outcome
pub mod Inner
