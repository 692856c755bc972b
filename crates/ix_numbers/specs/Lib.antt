pub mod Marks
pub mod Heaped
