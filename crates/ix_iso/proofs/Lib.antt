mod OneKind
mod Kin
pub mod Counts
mod Shapes
mod Entries
mod Inside
pub mod Facts
pub mod Steps
pub mod Histories
mod Rising
pub mod Lowerings
mod Zeroed
mod InLength
mod ByShape
mod Opened
pub mod Noninterference
pub mod forms
