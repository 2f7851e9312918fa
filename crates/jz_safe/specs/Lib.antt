pub mod Texts
pub mod SafeRuns
pub use Rattle.jz_one_expansion.specs.Expanded as ExpansionExpanded
