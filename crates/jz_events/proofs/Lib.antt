pub mod Blocks
pub mod Slots
pub mod Forms
pub mod Showing
pub mod Fitting
pub mod Law
