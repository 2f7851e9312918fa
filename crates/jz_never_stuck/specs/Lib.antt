pub mod Safety
pub mod SafetyLaws
pub use Rattle.jz_fact_runs.specs.Fine
