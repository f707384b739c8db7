pub mod Fields
pub mod Tests
pub mod HeaderBytes
pub mod HeaderRead
pub mod HeaderSound
pub mod HeaderFacts
