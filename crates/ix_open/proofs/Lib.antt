pub mod Tabled
pub mod Indexed
pub mod Counted
pub mod Viewed
