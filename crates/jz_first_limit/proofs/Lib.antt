pub mod Steps
pub mod Trees
pub mod TestArms
pub mod Answering
pub mod Copied
pub mod Setting
pub use Rattle.jz_interp.proofs.Starts
