pub mod SumTerms
pub mod TableHomes
pub mod Refusals
pub mod InnerSums
