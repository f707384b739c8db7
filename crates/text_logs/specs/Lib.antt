pub mod TextLog
pub mod Acts
