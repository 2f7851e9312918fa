pub mod Elements
pub mod Seating
pub mod Counting
pub mod HolderLemmas
pub mod Searching
pub mod Ordering
pub use Rattle.jz_live_lists.proofs.FollowedLemmas
