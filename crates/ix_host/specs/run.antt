pub mod Inputs
pub mod Outcome
pub mod Whole
pub mod Outlet
pub mod Teller
pub mod Tracer
pub mod Run
pub mod Tasks
