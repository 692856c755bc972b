pub mod RowIndex
pub mod Places
pub mod Known
