pub mod Joining
pub mod Digits
