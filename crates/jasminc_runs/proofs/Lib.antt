pub mod Ended
pub mod OnItems
