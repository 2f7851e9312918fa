pub mod Drawings
pub mod Draws
pub mod Laws
pub use Rattle.jz_labels.specs.ConstantTime
pub use Rattle.jz_required.specs.Readings
pub use Rattle.jz_secrets.specs.Graphs
