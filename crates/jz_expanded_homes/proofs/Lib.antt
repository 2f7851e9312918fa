pub mod Frames
pub mod Declared
pub mod Homed
pub mod Parts
pub mod Standing
pub mod Bodies
pub mod Whole
