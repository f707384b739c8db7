pub mod Page
pub mod PageRead
