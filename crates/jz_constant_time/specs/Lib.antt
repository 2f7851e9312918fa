pub mod Shown
pub use Rattle.jz_constant_leaks.specs.SafeExpansions
