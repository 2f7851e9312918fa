pub mod Memories
pub mod Apart
pub mod Existing
pub mod Arguments
pub mod Starts
