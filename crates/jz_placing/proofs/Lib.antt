pub mod Fronts
pub mod Runs
pub mod Holding
pub mod Numbers
pub mod Machine
pub mod Law
pub mod Allocated
pub mod FirstFit
mod Examples
