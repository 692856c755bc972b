pub mod Agreeing
pub mod Freshened
pub mod Falling
pub mod Alikeness
pub mod Costing
