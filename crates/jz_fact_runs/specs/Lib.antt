pub mod Fine
pub mod RunLaws
pub use Rattle.jz_standing.specs.Standing
pub use Rattle.jz_two_results.specs.TwoResults
