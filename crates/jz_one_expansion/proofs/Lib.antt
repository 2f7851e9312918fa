pub mod ScalarTrees
pub mod NoFor
pub mod Expansions
pub use Rattle.jz_expansion.proofs.Followed
pub use Rattle.jz_expansion.proofs.Whole
