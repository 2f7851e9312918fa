pub mod Adding
pub mod NumbersFit
pub mod Outcomes
mod WordExamples
