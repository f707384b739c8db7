pub mod Bounds
pub mod Grounds
pub mod Lifts
