pub mod Copied
pub mod RowedTrees
pub mod Passed
pub mod Copies
pub use Rattle.jz_kept_rows.proofs.Trees
