pub mod Layers
pub mod Sums
pub mod Operands
pub mod Counts
pub mod Counting
pub mod Answers
pub mod Lefts
pub use Rattle.jz_stuck_runs.proofs.Classes
