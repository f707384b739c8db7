pub mod Columns
pub mod Forms
pub mod Inner
