pub mod ExpandedNumbers
pub use Rattle.jz_one_expansion.specs.OneExpansion
