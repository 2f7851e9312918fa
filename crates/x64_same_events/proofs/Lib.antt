pub mod BothEffects
pub mod BothRuns
