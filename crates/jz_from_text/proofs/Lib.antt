pub mod Merging
pub mod Parameters
pub mod Head
pub mod Compiled
pub use Rattle.jz_distinct.proofs.Framed
pub use Rattle.jz_compiling.proofs.Members
pub use Rattle.jz_compiling.proofs.StackLemmas
