pub mod Flat
pub mod Standing
pub mod Counted
pub mod Laid
pub mod Opening
