pub mod ArgumentRegisters
pub mod Placing
