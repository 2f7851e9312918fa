pub mod Dropped
pub mod ToldLaws
