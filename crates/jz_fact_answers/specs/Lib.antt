pub mod Giving
pub use Rattle.jz_fact_sets.specs.Kept
