pub mod Said
pub mod InnerSums
pub mod InnerReadings
pub use Rattle.jz_alarms.specs.Conditions
