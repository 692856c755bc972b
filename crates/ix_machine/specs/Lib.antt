pub mod Born
pub mod Claimed
pub mod Joined
pub mod Opened
pub mod OwnCalls
pub mod Views
pub mod Restoring
