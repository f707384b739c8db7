pub mod ServicePage
pub mod Inner
