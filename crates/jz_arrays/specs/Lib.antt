pub mod Cells
pub mod Arrays
pub mod ScalarLaws
pub use Rattle.jz_run_laws.specs.Kinds
