pub mod OneExpansion
pub use Rattle.jz_expansion.specs.Expansions
pub use Rattle.jz_expansion.specs.CopiedKinds
pub use Rattle.jz_expansion.specs.declared.expanded.Expanded
pub use Rattle.jz_expansion.specs.Expanding
