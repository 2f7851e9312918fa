pub mod Terms
pub use Rattle.jz_meaning.specs.Values
pub use Rattle.jz_meaning.specs.States
