pub mod Phrases
pub mod Bodies
pub mod Expressions
pub mod Statements
pub mod Functions
pub mod Reading
pub mod Resolved
