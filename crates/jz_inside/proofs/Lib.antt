pub mod Summing
pub mod Reading
