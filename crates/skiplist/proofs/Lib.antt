pub mod Pointers
pub mod Nodes
pub mod Levels
