pub mod Pairs
pub mod Handing
pub mod Asked
pub mod LineAsks
pub mod Ruled
pub mod Places
