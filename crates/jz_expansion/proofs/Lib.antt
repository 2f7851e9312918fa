pub mod Followed
pub mod Refusing
pub use Rattle.jz_unrollable.proofs.FrameNames
pub use Rattle.jz_inlining.proofs.Kept
pub use Rattle.jz_unrollable.proofs.Unrollable
pub use Rattle.jz_walked_laws.proofs.Whole as WalkedLawsWhole
pub use Rattle.jz_unrollable.proofs.Whole
pub use Rattle.jz_unrolling.proofs.FunctionLemmas
pub use Rattle.jz_scalars.proofs.Keeping
pub use Rattle.jz_walked_laws.proofs.Ones
