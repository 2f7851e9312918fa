pub mod Memories
pub mod Starting
