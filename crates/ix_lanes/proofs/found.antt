pub mod Oks
pub mod Keyed
pub mod Near
pub mod Placing
pub mod Indexed
pub mod Numbering
pub mod Roles
