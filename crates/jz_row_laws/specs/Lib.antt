pub mod Numbers
pub use Rattle.jz_select.specs.Operands
pub use Rattle.jz_select.specs.Places
pub use Rattle.jz_select.specs.Rows
pub use Rattle.jz_select.specs.declared.shape.Shape
pub use Rattle.jz_select.specs.Shapes
