pub mod Coding
pub mod Growing
