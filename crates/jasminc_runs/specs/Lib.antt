pub mod Starting
pub mod Telling
pub mod Running
pub mod Calling
