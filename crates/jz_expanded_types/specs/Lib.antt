pub mod ExpandedLaws
pub use Rattle.jz_expansion.specs.CopiedKinds
pub use Rattle.jz_expansion.specs.Expansions
pub use Rattle.jz_expansion.specs.Functions
pub use Rattle.jz_expansion.specs.Inlined
