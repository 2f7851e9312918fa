pub mod Accesses
pub mod Entries
pub mod Sorted
pub mod FlagSorted
pub mod SortedBodies
pub mod Within
pub mod FlagWithin
pub mod Coded
