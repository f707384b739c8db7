pub mod Segments
pub mod Turns
pub mod Whole
pub mod Rising
