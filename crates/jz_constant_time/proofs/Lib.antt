pub mod Carrying
pub mod Whole
pub use Rattle.jz_constant_leaks.proofs.Expansions
