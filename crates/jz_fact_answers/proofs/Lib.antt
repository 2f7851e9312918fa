pub mod GivenFacts
