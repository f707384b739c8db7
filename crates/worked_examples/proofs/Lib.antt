pub mod Table
pub mod Ours
