pub mod Instructions
pub mod Variables
pub mod Renumbering
pub mod Flow
pub mod Following
pub mod Placing
