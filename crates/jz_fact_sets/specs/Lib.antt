pub mod Knowing
pub mod Kept
pub mod Renewing
pub mod Meeting
pub use Rattle.jz_facts.specs.Facts
