pub mod Names
pub mod Operands
pub mod Instructions
pub mod Disassembly
pub mod Hexadecimal
pub mod InnerDigits
