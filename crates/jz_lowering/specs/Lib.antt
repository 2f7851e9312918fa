pub mod Becoming
pub mod Parts
pub mod InnerParts
pub mod Passing
pub mod InnerPassing
pub mod Functions
pub mod Laws
pub use Rattle.jz_homing.specs.Tables
