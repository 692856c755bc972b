pub mod Messages
pub mod Requests
pub mod Serving
pub mod Places
pub mod Worked
