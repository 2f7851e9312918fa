pub mod InlineNames
pub mod Numbers
pub mod Parts
pub mod Refusals
