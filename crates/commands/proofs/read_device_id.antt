pub mod Source
pub mod Determined
