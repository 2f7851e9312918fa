pub mod Earliest
pub mod Standing
pub mod Firsts
mod Stacks
mod CellLaws
pub mod NestedLaws
pub mod Lists
pub mod Empty
pub mod TableLaws
pub mod UnknownLaws
pub mod RepeatedLaws
