pub mod Ordering
pub mod Calm
pub mod Holding
pub mod OneFirst
