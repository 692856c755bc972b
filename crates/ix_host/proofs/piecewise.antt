pub mod Fronts
pub mod Outlets
pub mod Stands
