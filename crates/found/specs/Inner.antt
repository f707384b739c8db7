pub mod Slots
pub mod Turns
