pub mod Laying
pub mod Framed
pub mod FrameRuns
pub mod InnerFrames
pub use Rattle.jz_correct.specs.Frames
