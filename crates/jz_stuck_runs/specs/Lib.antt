pub mod Parts
pub mod Lacking
pub mod Sizes
