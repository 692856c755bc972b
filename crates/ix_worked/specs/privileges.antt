pub mod Downgrading
pub mod ReadingTheLog
pub mod Executing
pub mod TrustedFile
pub mod Login
