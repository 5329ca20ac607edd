pub mod Fields
pub mod Weights
pub mod Gathered
pub mod Untouched
pub mod Determined
