pub mod CalledFuns
pub mod InlineLists
pub mod FrameNames
pub mod Unrollable
pub use Rattle.jz_ready.proofs.Whole
