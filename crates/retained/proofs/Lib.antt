pub mod Seeking
pub mod Rising
