pub mod Found
pub mod Pages
pub mod Inner
