pub mod Visit
pub mod Inner
