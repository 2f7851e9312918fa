pub mod Constants
pub mod Asked
