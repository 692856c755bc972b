pub mod TwoRuns
pub mod EqualLengths
