pub mod AskedLaws
pub mod CalledBodies
pub use Rattle.jz_inline.specs.BodiesCalls
pub use Rattle.jz_inline.specs.Calls
pub use Rattle.jz_inline.specs.Functions
pub use Rattle.jz_inline.specs.Names
