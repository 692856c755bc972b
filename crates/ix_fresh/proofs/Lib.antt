pub mod Through
mod Tables
mod Staying
mod StayingRows
mod Kept
pub mod Remaining
pub mod Nothing
pub mod Freshly
pub mod Spots
