pub mod Filed
pub mod Searched
pub mod Indexed
pub mod Found
pub mod Made
