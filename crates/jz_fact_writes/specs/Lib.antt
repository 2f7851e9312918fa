pub mod Instructing
pub mod Writing
pub mod Marking
pub use Rattle.jz_facts.specs.Holding
