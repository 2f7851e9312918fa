pub mod Shapes
pub mod Sayings
pub mod InnerReaders
