pub mod OrSizes
pub mod Joins
pub mod SameForms
pub mod Whole
mod Examples
