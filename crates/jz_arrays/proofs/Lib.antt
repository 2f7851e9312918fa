pub mod Reading
pub mod Assigning
pub mod GivenWords
pub mod Instructing
pub mod Sorted
pub mod Keeping
