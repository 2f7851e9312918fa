pub mod Parts
pub mod Operands
pub mod Rows
pub mod FlagRows
pub mod Rules
pub mod Whole
