pub mod CopiedNames
pub mod CopiedLaws
pub use Rattle.jz_unrolling_laws.specs.CalledBodies
pub use Rattle.jz_unrolling.specs.Fits
pub use Rattle.jz_unrolling.specs.Unrolled
