pub mod Back
pub mod Whole
