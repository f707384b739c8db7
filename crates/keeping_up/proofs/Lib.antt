pub mod RetainedLifts
pub mod Dropping
pub mod EachKept
pub mod KeepsUp
