pub mod Members
pub mod Sized
pub mod StackLemmas
pub use Rattle.jz_declared.proofs.Places
