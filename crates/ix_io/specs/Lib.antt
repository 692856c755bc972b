pub mod Streams
pub mod Planned
pub mod Views
