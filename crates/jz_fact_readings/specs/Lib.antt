pub mod Multiples
pub use Rattle.jz_facts.specs.Facts
pub use Rattle.jz_facts.specs.Intervals
