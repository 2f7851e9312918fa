pub mod Left
pub mod Placed
pub mod Whole
