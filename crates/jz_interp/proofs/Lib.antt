pub mod Arguments
pub mod Counting
pub mod Falls
pub mod Pieces
pub mod Rules
pub mod Starts
pub mod Taken
pub mod Weights
