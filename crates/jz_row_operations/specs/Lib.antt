pub mod Codes
pub mod Rows
pub mod Table
pub mod Lowering
pub mod Keeping
pub mod Laws
pub use Rattle.jz_placing.specs.Variables
