pub mod Report
pub mod Telling
pub mod Fixed
