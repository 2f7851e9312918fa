pub mod Sides
pub mod Exact
pub mod Assigning
pub mod Spans
pub mod Parts
pub mod Pushing
pub mod Rights
