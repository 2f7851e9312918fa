pub mod SafeLaws
pub use Rattle.jz_joined.specs.Making
