pub mod Telling
pub mod Runs
pub mod InnerRuns
pub mod Causes
pub mod Answers
