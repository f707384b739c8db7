pub mod Sums
pub mod InArea
pub mod Downs
pub mod Totals
pub mod CountsDown
pub mod Examples
