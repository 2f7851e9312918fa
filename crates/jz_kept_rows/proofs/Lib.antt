pub mod Values
pub mod Closed
pub mod Operations
pub mod Trees
pub use Rattle.jz_row_classes.proofs.Statements
