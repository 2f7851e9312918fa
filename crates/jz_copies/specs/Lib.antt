pub mod Called
pub mod Counts
pub mod InnerCounts
