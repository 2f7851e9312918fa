pub mod Making
pub use Rattle.jz_called.specs.Called
