pub mod Comparing
pub use Rattle.jz_facts.specs.Tests
