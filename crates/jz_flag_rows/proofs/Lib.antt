pub mod Apart
pub mod Codes
mod Examples
pub use Rattle.jz_one_row.proofs.Operands
pub use Rattle.jz_one_row.proofs.Outs
