pub mod MoreLabels
pub mod OneBreach
pub mod Keys
pub mod Existing
pub mod Comparing
mod Rows
