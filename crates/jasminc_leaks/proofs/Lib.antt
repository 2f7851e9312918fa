pub mod Showing
pub mod Applied
