pub mod Twice
pub mod Knowing
pub mod Valuing
pub mod One
