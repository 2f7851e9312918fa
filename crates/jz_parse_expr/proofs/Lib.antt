pub mod Levels
pub mod Parentheses
pub mod Laws
pub mod OperatorLemmas
pub mod Chain
