pub mod Nothing
pub mod Variables
pub mod Agreeing
pub mod Operations
pub mod Layers
pub mod Expressions
pub mod LeftKinds
pub mod LeftSides
pub mod Holding
pub mod Assigning
pub mod Calling
mod Examples
