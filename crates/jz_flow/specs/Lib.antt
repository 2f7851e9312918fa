pub mod Sets
pub mod Flow
pub mod Alarms
pub mod Soundness
pub use Rattle.jz_runs.specs.Rules
pub use Rattle.jz_runs.specs.RunLeaks
pub use Rattle.jz_runs.specs.Trees
