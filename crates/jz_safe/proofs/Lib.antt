pub mod Ready
pub mod Alarms
pub mod Runs
pub use Rattle.jz_safe_expansions.proofs.Whole
pub use Rattle.jz_safe_expansions.proofs.Words
pub use Rattle.jz_safe_expansions.proofs.Heads
pub use Rattle.jz_first_alarm.proofs.Stepping
