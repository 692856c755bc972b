pub mod FullPipe
pub mod Claims
pub mod Copying
