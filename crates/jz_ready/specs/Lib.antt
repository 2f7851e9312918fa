pub mod CopiedKinds
pub mod ReadyLaws
pub use Rattle.jz_bodies.specs.Calls
