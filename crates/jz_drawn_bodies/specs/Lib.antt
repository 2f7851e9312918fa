pub mod Bodies
pub use Rattle.jz_drawing.specs.Draws
