pub mod Listed
pub mod Whole
pub use Rattle.jz_joined.proofs.Joining
pub use Rattle.jz_joined.proofs.Returning
