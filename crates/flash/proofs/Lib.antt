pub mod Pages
pub mod Clearing
pub mod Slots
