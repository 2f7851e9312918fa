pub mod FirstAlarms
pub mod InnerAsking
pub use Rattle.jz_alarms.specs.Conditions
