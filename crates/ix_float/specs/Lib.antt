pub mod Floating
pub mod Marks
