pub mod Counted
pub mod Lines
pub mod Indexed
pub mod Compiled
pub mod Printed
