pub mod Intervals
pub mod Constants
pub use Rattle.x64_insn.specs.Size
pub use Rattle.x64_insn.specs.Sizes
