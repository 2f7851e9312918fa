pub mod Named
pub mod Stages
pub mod FirstCauses
pub mod Answering
pub use Rattle.jasminc_compile.proofs.Coming
pub use Rattle.jasminc_leaks.proofs.Showing
