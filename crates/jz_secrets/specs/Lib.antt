pub mod Graphs
pub mod Kept
pub mod InnerGraphs
pub use Rattle.jz_labels.specs.Labels
