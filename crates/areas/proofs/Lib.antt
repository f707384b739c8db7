pub mod Leaves
pub mod KeptCounts
