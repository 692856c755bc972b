pub mod Serial
pub mod Indexed
pub mod Lanes
pub mod Laws
pub mod History
