pub mod Rounding
pub mod Timing
pub mod WordFacts
pub mod AtEntry
pub mod Joining
