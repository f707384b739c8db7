pub mod Chip
pub mod Clears
