pub mod Requests
pub mod Faults
pub mod Answers
pub mod Differences
