pub mod OnDescriptors
pub mod OnPaths
pub mod OnProcesses
pub mod OnLabels
pub mod OnEntries
