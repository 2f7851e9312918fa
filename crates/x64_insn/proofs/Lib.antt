pub mod Registers
pub mod Numbers
pub mod Immediates
pub mod PlainRows
pub mod ResultFlags
pub mod Quotients
pub mod WholeProducts
pub mod Accesses
pub mod RexBits
pub mod ModrmFields
pub mod AddressFields
pub mod ModrmSpellings
pub mod OpcodeRows
pub mod PairSpellings
pub mod NumberSpellings
pub mod SizedSpellings
pub mod OpcodeSpellings
pub mod SpelledAddresses
pub mod SpelledOnly
pub mod ChosenSpelling
pub mod RegisterBytes
mod Examples
mod ResultExamples
pub use Rattle.jz_words.proofs.MemorySpans
pub use Rattle.jz_words.proofs.Residues
