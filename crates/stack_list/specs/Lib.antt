pub mod ListForm
pub mod Generated
pub mod Inner
