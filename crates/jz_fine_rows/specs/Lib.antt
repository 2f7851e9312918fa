pub mod Prepared
pub use Rattle.jz_plain_operands.specs.Plain
pub use Rattle.jz_row_classes.specs.RowClasses
