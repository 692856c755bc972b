pub mod Known
pub mod Touched
pub mod Laws
