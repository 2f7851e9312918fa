pub mod LeftSideLemmas
pub mod Powers
pub mod Shifting
pub mod StepLemmas
