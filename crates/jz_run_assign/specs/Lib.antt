pub mod Answers
pub mod InnerPairs
pub mod InnerParts
pub mod InnerRights
pub mod Passings
pub mod InnerCalls
