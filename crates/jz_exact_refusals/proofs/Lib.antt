pub mod Fitting
pub mod Frames
pub mod Homed
pub mod Whole
