pub mod Laid
pub mod Joined
pub mod Prologue
pub mod FramedRuns
pub mod FramedEvents
pub mod WholeRuns
pub mod Keeping
pub mod PlainRuns
pub mod Starting
pub mod NodeFrames
pub mod FrameLaw
pub mod SavedAll
mod Examples
mod RowExamples
