pub mod Entering
pub mod Telling
pub use Rattle.jz_fact_sets.specs.Kept
pub use Rattle.jz_facts.specs.Holding
