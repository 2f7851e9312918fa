pub mod Commands
pub mod Wanted
pub mod Inputs
pub mod Matching
