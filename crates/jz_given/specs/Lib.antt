pub mod Ranges
pub mod Giving
