pub mod Lines
pub mod Cutting
pub mod Words
pub mod Payloads
pub mod Spellings
pub mod PayloadBytes
pub mod Spelled
