pub mod LoopHeads
pub mod Splitting
pub mod SetScalars
pub mod Forms
pub mod Measures
