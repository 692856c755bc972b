pub mod Storing
pub mod Counting
pub mod Showing
pub mod Editing
