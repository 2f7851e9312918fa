pub mod Parsed
pub mod Colons
pub mod Fitting
