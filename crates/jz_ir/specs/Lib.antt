pub mod Order
pub mod Paths
pub mod Straight
pub mod Places
pub mod Tree
pub use Rattle.jz_io.specs.declared.span.Span
