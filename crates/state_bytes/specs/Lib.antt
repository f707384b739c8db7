pub mod StateBytes
pub mod Inner
