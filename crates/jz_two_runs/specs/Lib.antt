pub mod Two
pub mod Telling
