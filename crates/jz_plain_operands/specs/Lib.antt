pub mod Plain
pub mod PlainLaws
pub use Rattle.jz_instructed.specs.Instructed
