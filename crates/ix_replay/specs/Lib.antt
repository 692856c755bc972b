pub mod report
pub mod Summary
pub mod Tallying
