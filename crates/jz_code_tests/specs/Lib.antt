pub mod Loops
pub mod Functions
