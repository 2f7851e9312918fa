pub mod Layout
pub mod Showing
pub mod Lines
pub mod Matching
pub mod Correct
