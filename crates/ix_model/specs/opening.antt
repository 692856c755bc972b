pub mod Opening
pub mod Flat
pub mod Valid
