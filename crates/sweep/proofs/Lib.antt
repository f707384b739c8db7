pub mod Mask
pub mod Passing
pub mod Skipping
pub mod Visits
pub mod Found
