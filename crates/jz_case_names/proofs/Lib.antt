pub mod Composition
pub mod Unrolled
pub mod Flat
