pub mod Readying
pub mod Typing
pub use Rattle.jz_expansion.proofs.Followed
