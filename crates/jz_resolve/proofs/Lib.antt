pub mod Layers
pub mod Naming
pub mod Growing
pub mod Spans
pub mod InPlace
