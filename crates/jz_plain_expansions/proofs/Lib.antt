pub mod Clear
pub mod Variables
pub mod Passes
pub mod Ranges
pub mod Final
pub mod Within
pub mod Whole
pub use Rattle.jz_copied_variables.proofs.Legal
