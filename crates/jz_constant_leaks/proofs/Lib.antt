pub mod Alike
pub use Rattle.jz_ct.proofs.Expansions
pub use Rattle.jz_safe_expansions.proofs.Joining
pub use Rattle.jz_safe_expansions.proofs.Returning
