pub mod Judged
pub use Rattle.jz_one_expansion.proofs.Expansions
pub use Rattle.jz_one_expansion.proofs.Followed
