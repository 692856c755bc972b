pub mod Untouched
pub mod Floating
pub mod FileCeiling
pub mod TwoLevels
pub mod LooksAnew
pub mod FrozenFile
pub mod HighDirectory
