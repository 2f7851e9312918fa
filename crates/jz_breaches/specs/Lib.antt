pub mod InnerLoops
pub mod Answers
pub use Rattle.jz_drawing.specs.Draws
