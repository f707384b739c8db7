pub mod Run
pub mod Rules
pub mod ReadBack
pub mod Inner
