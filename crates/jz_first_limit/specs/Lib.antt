pub mod FirstLimits
pub mod InnerMet
pub mod InnerStraight
pub mod InnerWalker
pub use Rattle.jz_copies.specs.declared.extent.CopyLimit
pub use Rattle.jz_copies.specs.Counts
