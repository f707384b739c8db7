pub mod Emptying
pub mod Matched
pub mod Areas
