pub mod BreachLaws
pub use Rattle.jz_labels.specs.ConstantTime
