pub mod Lines
pub mod Preconditions
