pub mod Skip
pub mod PointerBytes
