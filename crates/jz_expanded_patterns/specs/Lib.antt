pub mod ExpandedPatterns
