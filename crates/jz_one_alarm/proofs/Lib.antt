pub mod SameNumbers
pub mod SameIntervals
pub mod SameSteps
pub mod SameTests
pub mod SameAsks
pub mod OneAlarms
