pub mod Walking
pub mod Values
pub mod Fitting
pub mod Numbering
pub mod Examples
pub mod Counting
