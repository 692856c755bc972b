pub mod asking
pub mod histories
pub mod running
