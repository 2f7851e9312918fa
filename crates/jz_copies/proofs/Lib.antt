pub mod Depths
pub mod Walks
pub use Rattle.jz_interp.proofs.Falls
pub use Rattle.jz_interp.proofs.Starts
pub use Rattle.jz_interp.proofs.Weights
