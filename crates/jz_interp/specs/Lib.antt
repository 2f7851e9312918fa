pub mod InnerAnswers
pub mod InnerCalls
pub mod InnerEnds
pub mod InnerParts
pub mod InnerRounds
pub mod Outcomes
