pub mod HandedOn
pub mod EntryLemmas
pub mod HomelessLemmas
pub mod HomingLemmas
