pub mod Operators
pub mod Trees
pub mod Table
pub mod Readers
