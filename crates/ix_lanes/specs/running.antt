pub mod Phases
pub mod Stretches
pub mod Left
pub mod Runs
pub mod Fields
pub mod SideBySide
pub mod Serially
pub mod Laws
