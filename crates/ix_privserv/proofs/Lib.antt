pub mod Letters
pub mod Requests
pub mod Privacy
pub mod Worked
pub mod Asked
pub mod Few
