pub mod LaidOver
pub mod Overlays
pub mod Blocks
pub mod Choices
pub mod Loops
pub mod Answered
