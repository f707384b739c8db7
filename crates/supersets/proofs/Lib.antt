pub mod Parts
pub mod Numbers
pub mod Fitting
pub mod Unused
pub mod Placing
pub mod Theorems
pub mod Examples
pub mod Leaving
