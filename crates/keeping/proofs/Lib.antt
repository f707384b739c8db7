pub mod Numbers
pub mod Shedding
pub mod Appends
pub mod Drops
pub mod Examples
