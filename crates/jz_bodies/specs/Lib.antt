pub mod Scopes
pub mod Calls
pub mod Bodies
pub mod Declared
pub mod Typed
pub use Rattle.jz_run_laws.specs.Kinds
pub use Rattle.jz_texts.specs.Texts
