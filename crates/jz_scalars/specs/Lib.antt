pub mod Scalars
pub mod Ready
pub mod Functions
pub mod InnerCells
pub mod InnerMasks
pub use Rattle.jz_inline.specs.Calls
pub use Rattle.jz_inline.specs.Functions as InlineFunctions
pub use Rattle.jz_inline.specs.Names
