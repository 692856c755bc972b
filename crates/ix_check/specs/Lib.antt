pub mod Verdicts
pub mod Stepping
pub mod Printing
pub mod Plans
pub mod Judging
pub mod Parts
pub mod Laws
