pub mod Carrying
pub mod Cleaning
pub mod Showing
