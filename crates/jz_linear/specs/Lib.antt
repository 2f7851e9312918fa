pub mod Plain
pub mod Lines
pub mod LineRuns
pub mod InnerLines
