pub mod Steps
pub mod TableLaws
pub mod TwiceLaws
pub mod CopyLaws
pub use Rattle.jz_select.proofs.FirstRow
