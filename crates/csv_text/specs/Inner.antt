pub mod Reading
pub mod Descent
