pub mod Asked
pub mod TallyMost
pub mod SearchPages
