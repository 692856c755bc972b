pub mod Users
pub mod Requests
pub mod Privacy
pub mod Rules
pub mod Worked
pub mod Asked
pub mod Few
