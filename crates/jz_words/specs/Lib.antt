pub mod Sizes
pub mod Memory
pub mod Words
pub mod Readings
