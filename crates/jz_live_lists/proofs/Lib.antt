pub mod Whole
pub mod Trees
pub mod FollowedLemmas
