pub mod Tables
pub mod Fit
pub mod InnerHolding
pub mod Needs
pub mod InnerNeeds
pub mod Answers
pub mod InnerAnswers
