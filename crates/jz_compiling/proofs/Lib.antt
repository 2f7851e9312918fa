pub mod Needs
pub mod Expanded
pub mod Codeless
pub use Rattle.jz_signature.proofs.StackLemmas
pub use Rattle.jz_signature.proofs.Members
