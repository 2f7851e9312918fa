pub mod RowClasses
pub mod RowLaws
pub use Rattle.jz_instructed.specs.Instructed
