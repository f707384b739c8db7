pub mod Codes
pub mod Tallies
pub mod PlateTurns
