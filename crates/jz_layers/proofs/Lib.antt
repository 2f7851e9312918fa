pub mod SpotLemmas
pub mod TableLemmas
pub mod Covering
pub mod Listing
pub mod Holding
