pub mod Functions
pub mod Laws
pub use Rattle.jz_every_row.specs.Bodies
