pub mod Inheriting
pub mod Waiting
pub mod WaitingLow
pub mod SharedOffset
