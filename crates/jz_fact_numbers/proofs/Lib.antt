pub mod Beside
pub mod Words
