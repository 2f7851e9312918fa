pub mod Variables
pub mod VariableLaws
pub use Rattle.jz_ready.specs.CopiedKinds
