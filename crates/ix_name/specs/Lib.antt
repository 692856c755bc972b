pub mod Directories
pub mod Entries
pub mod Buckets
pub mod Indexed
