pub mod Ready
pub use Rattle.jz_expansion.specs.Expansions
pub use Rattle.jz_expansion.specs.declared.expanded.Expanded
pub use Rattle.jz_expansion.specs.Expanding as ExpansionExpanding
