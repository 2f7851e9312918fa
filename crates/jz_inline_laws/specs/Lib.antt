pub mod InlineParts
pub mod InlineBodies
pub use Rattle.jz_unrolling_laws.specs.AskedLaws
pub use Rattle.jz_unrolling_laws.specs.CalledBodies
pub use Rattle.jz_bodies.specs.Calls
pub use Rattle.jz_typed_runs.specs.TypedTexts
