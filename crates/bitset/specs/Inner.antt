pub mod Emptying
pub mod Words
