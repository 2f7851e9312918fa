pub mod Known
pub mod Marks
pub mod Bodies
pub use Rattle.jz_flag_runs.proofs.Codes
