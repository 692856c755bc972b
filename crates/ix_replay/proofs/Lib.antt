pub mod report
pub mod piecewise
pub mod Remade
pub mod Summed
