pub mod NoSecrets
pub use Rattle.jz_constant_time.specs.SafeExpansions
pub use Rattle.jz_constant_time.specs.Shown
pub use Rattle.jz_from_text.specs.Functions
pub use Rattle.jz_from_text.specs.LoweredFun
