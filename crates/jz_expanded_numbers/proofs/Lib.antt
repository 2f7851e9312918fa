pub mod Spoken
pub mod TreeNumbers
pub mod Expansions
pub use Rattle.jz_one_expansion.proofs.Expansions as OneExpansionExpansions
