pub mod Answers
pub mod Call
pub mod Inner
