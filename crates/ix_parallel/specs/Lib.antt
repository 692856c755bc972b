pub mod Stages
pub mod Seats
pub mod Between
pub mod Meeting
pub mod Joining
