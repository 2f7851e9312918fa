pub mod Causing
pub mod Stopping
pub mod Finding
pub mod Limiting
