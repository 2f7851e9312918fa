pub mod Kept
pub mod InnerLefts
pub mod Drew
pub use Rattle.jz_drawing.specs.Draws
