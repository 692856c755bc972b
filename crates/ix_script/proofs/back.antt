pub mod Shortest
pub mod OneSpelling
mod HexBack
mod PayloadBack
mod QuotesBack
pub mod Shorter
mod LineBack
mod FormBack
pub mod TextBack
pub mod ScriptBack
pub mod Respelling
pub mod LaneBack
pub mod NextLane
