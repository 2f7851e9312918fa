pub mod Meetings
pub use Rattle.jz_drawing.specs.Draws
