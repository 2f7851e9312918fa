pub mod Comparing
pub mod Sides
pub mod Stretches
pub mod Unrolled
pub mod Copied
pub mod Flat
