pub mod ExpandedBodies
pub mod ReadyExpansions
