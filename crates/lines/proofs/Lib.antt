pub mod Reading
pub mod Example
