pub mod Fitting
pub mod FineLaws
pub use Rattle.jz_instructed.specs.Instructed
