pub mod Hops
pub mod Places
pub mod Steps
