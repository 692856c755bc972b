pub mod History
pub mod View
pub mod Rule
pub mod Steps
pub mod Gate
pub mod Seat
pub mod AtRest
