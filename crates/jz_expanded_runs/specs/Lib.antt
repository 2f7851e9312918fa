pub mod RunLaws
pub use Rattle.jz_expansion.specs.declared.expanded.Expanded
pub use Rattle.jz_expansion.specs.Expansions
