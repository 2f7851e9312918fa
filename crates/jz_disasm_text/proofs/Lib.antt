pub mod Functions
pub mod Sizes
pub mod OneAnswer
