pub mod Operations
pub mod Labels
pub mod Required
pub mod ConstantTime
pub use Rattle.jz_flow.specs.Flow
pub use Rattle.jz_terms.specs.Terms
