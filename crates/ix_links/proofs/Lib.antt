pub mod Running
pub mod Listing
pub mod Calls
pub mod Making
pub mod Held
pub mod Members
pub mod Walked
pub mod Pooled
