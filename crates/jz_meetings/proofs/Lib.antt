pub mod OfTrees
pub mod Nowhere
pub mod Kept
