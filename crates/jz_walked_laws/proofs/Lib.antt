pub mod Ones
pub mod AskedParts
pub mod Knowing
pub mod Operations
pub mod CalledParts
pub mod Walked
pub mod Whole
