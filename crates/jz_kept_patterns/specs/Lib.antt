pub mod Matched
pub mod Passes
pub mod KeptPatterns
