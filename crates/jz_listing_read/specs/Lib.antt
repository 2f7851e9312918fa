pub mod Reading
pub mod InnerStates
pub mod InnerLines
