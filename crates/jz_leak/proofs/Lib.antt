pub mod Applied
pub mod CutLaws
pub mod Examples
pub mod MemorySegments
pub mod Walking
