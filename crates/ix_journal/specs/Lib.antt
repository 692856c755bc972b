pub mod Recorded
pub mod Heads
pub mod Entries
