pub mod Paired
pub mod Outcomes
