mod Examples
pub mod Composition
pub mod CutsKept
pub mod FlatEvents
pub mod Forms
pub mod Operations
pub mod StepCases
pub mod StepJoins
pub mod StepKinds
pub mod StepViews
pub mod Whole
