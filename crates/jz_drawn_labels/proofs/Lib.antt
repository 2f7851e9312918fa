pub mod Tables
pub mod Sheets
pub mod Lefts
pub mod Operated
