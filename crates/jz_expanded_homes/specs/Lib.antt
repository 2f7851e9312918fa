pub mod ExpandedHomes
