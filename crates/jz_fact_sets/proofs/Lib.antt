pub mod KeyLemmas
pub mod KnowledgeLemmas
pub mod NamedBits
pub mod FactLemmas
pub mod KnownLemmas
pub mod Named
pub mod Forgetting
pub mod Tabled
