pub mod Rows
pub mod InnerRows
pub use Rattle.jz_operands.specs.TableHomes
pub use Rattle.jz_operands.specs.Refusals
