pub mod Bands
pub mod Totals
pub mod Counts
pub mod Ends
pub mod StackBands
pub mod StickerRule
pub mod Lookups
