pub mod ClearVars
pub mod NumberLemmas
pub mod NamedParts
pub mod RowSides
pub mod SetBefore
pub mod Assigning
pub mod Passing
pub mod Bodies
pub mod Whole
pub use Rattle.jz_unrolling_laws.proofs.AskedValues
pub use Rattle.jz_bodies.proofs.Whole as BodiesWhole
pub use Rattle.jz_bodies.proofs.Refs
