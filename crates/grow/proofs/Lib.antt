pub mod Stops
pub mod Steps
pub mod Writing
