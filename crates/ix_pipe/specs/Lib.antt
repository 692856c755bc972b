pub mod Pipe
pub mod Claims
pub mod Slots
