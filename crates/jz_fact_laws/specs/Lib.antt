pub mod Saying
pub mod FactLaws
pub use Rattle.jz_facts.specs.Facts
pub use Rattle.jz_meaning.specs.States
pub use Rattle.jz_facts.specs.Intervals
