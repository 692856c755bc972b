pub mod Readers
pub mod Placing
pub mod Told
pub mod Indexed
pub mod Cut
