pub mod Found
pub mod Answers
