pub mod Grammar
pub mod Words
pub mod Inner
