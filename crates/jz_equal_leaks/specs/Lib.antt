pub mod TwoRuns
pub mod Fixed
pub mod Agreeing
pub mod Laws
