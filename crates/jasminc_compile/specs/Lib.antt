pub mod SafeFunctions
pub mod Refusals
pub mod Making
pub mod Causes
pub mod Answers
pub mod MakingLaws
pub mod InnerSafety
pub mod InnerMaking
pub mod InnerSettling
pub use Rattle.jasminc_check.specs.Safety as CheckSafety
pub use Rattle.jasminc_check.specs.Ready
pub use Rattle.jz_verdict.specs.Said
