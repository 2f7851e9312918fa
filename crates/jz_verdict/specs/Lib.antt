pub mod Said
pub use Rattle.jz_ct.specs.Told
pub use Rattle.jz_ct.specs.Expanded
pub use Rattle.jz_ct.specs.Expanding
pub use Rattle.jz_ct.specs.Expansions
