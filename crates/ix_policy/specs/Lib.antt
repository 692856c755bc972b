pub mod Fields
pub mod Policies
pub mod Deciding
