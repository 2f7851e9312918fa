pub mod ConstantLeaks
pub use Rattle.jz_safe_expansions.specs.SafeExpansions
pub use Rattle.jz_ct.specs.Told
pub use Rattle.jz_safe_expansions.specs.Making
