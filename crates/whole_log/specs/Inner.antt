pub mod Held
pub mod Rising
pub mod Turns
