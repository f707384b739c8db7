pub mod Appended
pub mod GoingOn
pub mod ShedAreas
