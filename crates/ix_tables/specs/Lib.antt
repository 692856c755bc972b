pub mod Parts
pub mod Joined
pub mod Views
pub mod Opening
