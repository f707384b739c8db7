pub mod Order
pub mod Grounds
pub mod ByEnds
pub mod Theorems
pub mod Examples
