pub mod Laws
pub mod Configs
pub mod Noninterference
pub mod Forms
