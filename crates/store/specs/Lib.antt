pub mod Bounds
pub mod World
pub mod Calls
pub mod Inner
pub mod Sentences
