pub mod LaidFacts
pub mod Splitting
pub mod Leaving
pub mod Greatest
pub mod Measures
pub mod Leading
pub mod Turning
