pub mod Turning
pub mod Seated
