pub mod AtHand
pub mod Turns
