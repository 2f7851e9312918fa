pub mod Bodies
pub mod Flows
pub mod Codes
pub mod Sorted
pub mod Allocated
pub mod FiveFlags
pub mod SameSteps
pub mod OneRun
