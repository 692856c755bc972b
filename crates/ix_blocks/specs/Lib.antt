pub mod Files
pub mod Shown
pub mod Wholes
pub mod Stored
