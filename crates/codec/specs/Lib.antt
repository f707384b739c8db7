pub mod Area
pub mod Number
pub mod Lists
