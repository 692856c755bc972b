pub mod Stepping
pub mod Stops
pub mod OneSeat
pub mod Marking
pub mod Seen
