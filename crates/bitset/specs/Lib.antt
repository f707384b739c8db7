pub mod Set
pub mod Inner
