pub mod Need
pub mod Scripts
pub mod Canonical
pub mod Laws
pub mod Held
pub mod Packed
pub mod Schedule
