pub mod AlarmLines
pub mod Safety
pub mod Causes
pub mod Answers
pub mod InnerSafety
pub mod JudgementLaws
pub use Rattle.jasminc_expansions.specs.Ready
pub use Rattle.jz_first_alarm.specs.FirstAlarms
