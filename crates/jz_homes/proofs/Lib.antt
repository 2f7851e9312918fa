pub mod Shown
pub mod Parts
pub mod SumValues
pub mod Reading
pub mod Writing
