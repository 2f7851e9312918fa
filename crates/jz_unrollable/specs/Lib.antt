pub mod UnrollableLaws
pub use Rattle.jz_ready.specs.CopiedKinds
