pub mod Meeting
pub mod Lawful
mod Examples
mod Edges
