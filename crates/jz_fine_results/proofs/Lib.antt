pub mod Forms
pub mod Matching
pub mod Pairs
pub mod Instructions
