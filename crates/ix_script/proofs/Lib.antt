mod reader
pub mod texts
pub mod lines
pub mod back
