pub mod Image
pub mod Segments
