pub mod Values
pub mod Sums
pub use Rattle.x64_insn.specs.Sizes
