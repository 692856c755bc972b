pub mod Rows
pub mod Seated
pub mod Spots
pub mod Changed
pub mod Room
