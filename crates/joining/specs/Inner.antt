pub mod Looking
pub mod Passing
