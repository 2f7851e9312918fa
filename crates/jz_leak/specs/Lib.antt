pub mod MemoryMap
pub mod MemoryMapSegments
pub mod RunLeaks
pub mod Cuts
pub mod Applying
pub mod Shown
pub mod InnerWalks
pub mod InnerSegments
pub mod InnerSizes
pub use Rattle.jz_data.specs.Laws as DataLaws
