pub mod Writing
pub mod Reading
