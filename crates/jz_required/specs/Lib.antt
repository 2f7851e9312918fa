pub mod Readings
pub mod Kept
pub mod InnerSides
pub use Rattle.jz_labels.specs.Required
