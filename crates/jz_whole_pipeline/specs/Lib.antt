pub mod Correctness
pub mod Headline
pub use Rattle.jz_compiling.specs.Made
pub use Rattle.jz_compiling.specs.declared.compiling.NotCompiled
pub use Rattle.jz_compiling.specs.Refused
pub use Rattle.jz_safe.specs.declared.certificate.Safe
pub use Rattle.jz_safe.specs.Texts
