pub mod CopiedClasses
pub use Rattle.jz_kept_rows.specs.KeptRows
pub use Rattle.jz_kept_rows.specs.RowClasses
