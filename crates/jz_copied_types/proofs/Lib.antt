pub mod Copying
pub mod Kept
pub mod TypedTrees
pub mod Passed
pub mod Copies
