pub mod AskedValues
pub mod CopiedValues
pub use Rattle.jz_inline.proofs.Naming
pub use Rattle.jz_inline.proofs.Reading
pub use Rattle.jz_inline.proofs.Renaming
