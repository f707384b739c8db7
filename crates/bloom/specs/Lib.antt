pub mod Bloom
pub mod Pages
pub mod Tried
pub mod Inner
