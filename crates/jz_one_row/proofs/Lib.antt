pub mod Outs
pub mod Sums
pub mod Operands
pub mod Rows
pub mod Statements
