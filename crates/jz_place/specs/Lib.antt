pub mod Bodies
pub mod Codes
pub mod Sorts
pub mod Laws
pub use Rattle.jz_placing.specs.Variables
