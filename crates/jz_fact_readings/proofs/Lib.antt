pub mod LeftSides
pub mod Powers
pub mod Settling
pub mod Walking
