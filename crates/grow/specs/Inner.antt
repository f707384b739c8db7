pub mod Meaning
pub mod Sight
pub mod Written
