pub mod PageWritten
pub mod PageShown
pub mod Example
