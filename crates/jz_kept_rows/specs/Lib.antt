pub mod KeptRows
pub use Rattle.jz_row_classes.specs.RowClasses
