pub mod AssignedLaws
pub use Rattle.jz_standing.specs.Standing
pub use Rattle.jz_unstuck.specs.MetLaws
pub use Rattle.jz_unstuck.specs.Conditions
