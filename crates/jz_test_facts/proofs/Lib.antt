pub mod ToldFacts
pub mod KnownFacts
