pub mod Asking
pub mod Steps
pub mod Runs
pub mod Lines
pub mod Copies
pub mod Copying
pub mod serving
