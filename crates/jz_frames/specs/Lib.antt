pub mod Frames
pub mod InnerFrames
pub use Rattle.jz_inline.specs.Calls
pub use Rattle.jz_inline.specs.Functions
pub use Rattle.jz_inline.specs.Names
