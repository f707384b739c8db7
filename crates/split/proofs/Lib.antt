pub mod Offset
pub mod Prediction
pub mod Midpoint
