pub mod Integers
pub mod InnerLeftSides
pub mod Laws
