pub mod Words
pub mod Stated
pub mod Entering
pub mod Regions
pub mod Whole
