pub mod Bounds
pub mod Merging
pub mod Needed
pub mod Pushing
pub mod Here
