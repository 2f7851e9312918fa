pub mod InStep
pub mod Bits
pub mod Parameters
pub mod Suiting
