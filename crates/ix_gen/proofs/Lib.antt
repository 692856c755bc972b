pub mod Lengths
pub mod Told
