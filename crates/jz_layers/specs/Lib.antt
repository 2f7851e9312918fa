pub mod Spots
pub mod Layered
