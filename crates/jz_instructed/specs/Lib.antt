pub mod Instructed
pub mod InstructedLaws
pub use Rattle.jz_standing.specs.Standing
pub use Rattle.jz_assigned.specs.AssignedLaws
pub use Rattle.jz_assigned.specs.MetLaws
