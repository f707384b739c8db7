pub mod Swept
pub mod Turns
