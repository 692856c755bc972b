pub mod Bytes
pub mod Spellings
pub mod Items
pub mod Names
pub mod Privs
pub mod Labels
