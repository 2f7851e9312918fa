pub mod Meaning
pub mod Rules
pub mod Known
pub mod Kept
