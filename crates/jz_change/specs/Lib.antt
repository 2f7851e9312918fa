pub mod Changes
pub mod Fitting
pub mod Composing
pub mod Flattening
pub mod Views
pub mod InnerSteps
