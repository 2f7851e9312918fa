pub mod Words
pub mod Heads
pub use Rattle.jz_plain_expansions.proofs.Whole
