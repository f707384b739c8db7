pub mod Keeping
pub mod Next
pub mod Inner
