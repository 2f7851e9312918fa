pub mod Homes
pub mod Sums
pub mod Operands
pub mod Laws
