pub mod Inputs
pub mod Returning
pub mod Joining
pub mod Whole
mod Examples
