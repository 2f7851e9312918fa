pub mod MetLaws
pub use Rattle.jz_standing.specs.Standing
pub use Rattle.jz_alarms.specs.Conditions
