pub mod texts
pub mod lines
pub mod scripts
pub mod reader
