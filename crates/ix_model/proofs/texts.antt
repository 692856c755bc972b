pub mod Pieces
pub mod Joining
pub mod Reading
pub mod Runs
