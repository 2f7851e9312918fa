pub mod Held
pub mod Counts
pub mod SumForms
pub mod Making
pub mod Typed
pub mod Plain
pub mod Values
