pub mod Stage
pub mod Texts
pub mod Exports
pub mod Unreadable
