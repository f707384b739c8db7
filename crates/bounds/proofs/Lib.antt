pub mod Tests
pub mod Within
pub mod TriedFirst
