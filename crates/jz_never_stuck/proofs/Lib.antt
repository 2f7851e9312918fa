pub mod NoAlarms
pub mod Words
pub mod Whole
