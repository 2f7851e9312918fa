pub mod Told
pub use Rattle.jz_labels.specs.ConstantTime
pub use Rattle.jz_one_expansion.specs.Expansions
pub use Rattle.jz_one_expansion.specs.OneExpansion
pub use Rattle.jz_one_expansion.specs.Expanded
pub use Rattle.jz_one_expansion.specs.Expanding
