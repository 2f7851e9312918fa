pub mod Held
pub mod Inputs
pub mod InnerCover
pub mod InnerHeld
pub mod InnerFilled
