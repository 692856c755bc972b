pub mod world
pub mod rows
pub mod history
pub mod opening
pub mod laws
pub mod two_runs
