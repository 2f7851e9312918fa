pub mod LastLeft
pub mod RightValues
pub mod Writing
pub mod GivenLemmas
pub mod RestLemmas
pub mod StepLemmas
pub mod ValueLemmas
