pub mod Signs
pub mod SideBySide
pub mod Loads
