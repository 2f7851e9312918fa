pub mod WithinBodies
pub mod Sizes
pub mod ExpandedLimits
pub use Rattle.jz_expansion.specs.Expansions
