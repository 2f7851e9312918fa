pub mod Differing
pub mod Copied
pub mod Framed
pub use Rattle.jz_declared.proofs.Places
