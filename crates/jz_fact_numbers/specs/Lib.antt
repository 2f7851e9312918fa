pub mod Ends
pub use Rattle.jz_intervals.specs.Constants
