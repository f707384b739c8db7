pub mod Lookup
pub mod Total
pub mod Stack
pub mod Plate
pub mod Carried
pub mod Inner
