mod Reading
mod Labels
mod Commands
mod Beginning
pub mod Whole
