pub mod Sizing
pub mod Writing
pub mod Answered
