pub mod Choosing
pub mod Looping
pub mod Judging
