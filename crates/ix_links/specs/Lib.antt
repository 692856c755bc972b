pub mod Chains
pub mod Linking
pub mod Standing
pub mod Whole
