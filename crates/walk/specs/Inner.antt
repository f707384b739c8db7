pub mod Placed
pub mod Seen
pub mod Sound
