pub mod Words
pub mod Reading
pub mod Extents
pub mod Written
pub use Rattle.jz_lex.proofs.LexingWords
