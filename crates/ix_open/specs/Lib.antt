pub mod Table
pub mod Entries
pub mod Indexed
pub mod Tally
