pub mod Wholes
pub mod PipesPast
pub mod Written
pub mod Stopping
pub mod Claimed
