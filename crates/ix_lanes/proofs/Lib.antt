pub mod found
pub mod serially
pub mod phased
