pub mod Rows
pub mod Graphing
pub mod Fewest
