pub mod Steadily
pub mod Logging
pub mod Carried
pub mod Making
pub mod Unmaking
pub mod Adding
pub mod Forking
pub mod Closing
pub mod Following
pub mod FloatingRows
pub mod Lengths
pub mod Stepping
pub mod Reaching
mod Holding
mod Shapes
pub mod Soundly
