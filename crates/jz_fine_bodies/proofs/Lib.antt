pub mod Within
pub mod Whole
