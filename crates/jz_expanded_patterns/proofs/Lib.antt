pub mod Bodies
pub mod SourceRows
pub mod Names
pub mod Passed
pub mod Copies
pub mod Rounds
pub mod Words
pub mod Whole
