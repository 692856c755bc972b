pub mod Fitting
pub mod Openings
pub mod Validity
pub mod Leading
pub mod Lines
pub mod Placing
pub mod Built
pub mod NamesPlaced
pub mod WaysPlaced
pub mod CountsPlaced
pub mod Bare
pub mod Mounts
pub mod BareBuilt
pub mod OpenedWorlds
pub mod OpeningSound
mod HeldPlaced
