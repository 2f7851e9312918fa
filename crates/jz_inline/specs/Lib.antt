pub mod Names
pub mod Widths
pub mod Calls
pub mod Functions
pub mod Statements
pub mod CopiedNames
pub mod InnerWidths
pub use Rattle.jz_bodies.specs.Calls as BodiesCalls
pub use Rattle.jz_bodies.specs.Declared
pub use Rattle.jz_bodies.specs.Scopes
pub use Rattle.jz_bodies.specs.Texts
pub use Rattle.jz_bodies.specs.Typed
