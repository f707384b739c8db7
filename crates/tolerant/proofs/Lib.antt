pub mod Counting
pub mod Picking
pub mod Listed
pub mod Asked
pub mod Theorems
