pub mod Formed
pub mod Layers
pub mod Building
pub mod InlineValues
pub mod Kept
pub mod Inline
pub mod Turned
