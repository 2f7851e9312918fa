pub mod Typing
pub mod Standing
pub mod ValueLaws
pub use Rattle.jz_fact_laws.specs.Saying
pub use Rattle.jz_run_laws.specs.Kinds
