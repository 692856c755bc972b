pub mod Slotted
pub mod Changed
