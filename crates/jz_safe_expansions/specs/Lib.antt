pub mod SafeExpansions
pub use Rattle.jz_safe_functions.specs.Making
pub use Rattle.jz_expanded_heads.specs.Safety
