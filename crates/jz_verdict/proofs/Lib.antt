pub mod Listed
pub use Rattle.jz_ct.proofs.Expansions
pub use Rattle.jz_ct.proofs.Followed
