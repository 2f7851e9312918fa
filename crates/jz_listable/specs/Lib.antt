pub mod Sizes
pub mod Made
