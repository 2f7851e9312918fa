pub mod Branches
pub mod InnerWants
pub mod InnerSpots
pub mod InnerSeats
pub mod InnerHolding
pub mod InnerAnswers
