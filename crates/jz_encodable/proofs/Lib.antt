pub mod CodeLemmas
pub mod Spelling
