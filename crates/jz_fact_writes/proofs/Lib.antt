pub mod Gaining
pub mod Orders
pub mod Layering
pub mod Unmarking
pub mod Values
