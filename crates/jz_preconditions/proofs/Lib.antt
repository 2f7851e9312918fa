pub mod Tabled
pub mod Joined
pub mod Leasts
pub mod Zeros
pub mod LeastMeets
