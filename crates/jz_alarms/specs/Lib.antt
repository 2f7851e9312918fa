pub mod Conditions
pub mod Alarms
pub mod AlarmLaws
pub use Rattle.jz_facts.specs.Facts
pub use Rattle.jz_flow.specs.Flow
