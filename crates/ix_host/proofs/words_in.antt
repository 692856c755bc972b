pub mod Counts
pub mod Dashes
pub mod LineWalk
