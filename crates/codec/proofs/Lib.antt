pub mod Areas
pub mod Numbers
pub mod Loops
pub mod Truth
pub mod Lists
