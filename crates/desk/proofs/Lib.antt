pub mod Obeying
pub mod Typing
