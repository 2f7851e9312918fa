pub mod SourceLeaks
pub use Rattle.jz_constant_leaks.specs.SafeExpansions
