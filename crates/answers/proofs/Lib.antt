pub mod Justified
pub mod Printing
pub mod ReadBack
pub mod Example
