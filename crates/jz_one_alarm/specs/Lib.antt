pub mod SetLaws
pub use Rattle.jz_alarms.specs.Alarms
