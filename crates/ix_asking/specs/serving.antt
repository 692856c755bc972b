pub mod Serving
pub mod Messages
pub mod Requests
pub mod Texts
pub mod Telling
pub mod Serveds
pub mod Privately
