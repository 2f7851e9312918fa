pub mod Pieces
pub use Rattle.jz_drawing.specs.Draws
