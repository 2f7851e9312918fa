pub mod ExactRefusals
pub use Rattle.jz_safe_expansions.specs.SafeExpansions
