pub mod Shown
pub mod Pieces
pub mod NextLine
