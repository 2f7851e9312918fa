pub mod Masks
pub mod Expressions
pub mod Assignments
pub mod Instructions
pub mod Arrays
pub mod Rounds
pub mod Calls
pub mod Told
