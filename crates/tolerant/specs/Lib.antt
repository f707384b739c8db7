pub mod Answers
pub mod Call
pub mod Words
pub mod Inner
