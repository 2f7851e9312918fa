pub mod TwoResults
pub mod TwoLaws
pub use Rattle.jz_standing.specs.Standing
pub use Rattle.jz_instructed.specs.AssignedLaws
pub use Rattle.jz_instructed.specs.Instructed
