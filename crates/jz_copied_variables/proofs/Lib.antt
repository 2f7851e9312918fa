pub mod Integers
pub mod Over
pub mod Seen
pub mod Legal
pub mod Source
pub mod Layers
pub mod Copied
pub use Rattle.jz_ready.proofs.Whole
