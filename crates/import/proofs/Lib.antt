pub mod Folding
pub mod Appends
