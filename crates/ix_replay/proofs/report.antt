pub mod Beginnings
pub mod LaneNames
pub mod ReadLanes
pub mod Askers
pub mod Fixed
