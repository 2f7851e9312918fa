pub mod Asked
pub mod InnerAsked
pub use Rattle.jz_alarms.specs.Conditions
