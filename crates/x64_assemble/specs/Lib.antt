pub mod Assembling
pub mod CodeRuns
pub mod InnerTables
