pub mod FirstCauses
pub mod Lines
pub mod Judged
pub mod Readying
pub use Rattle.jasminc_expansions.proofs.Readying as ExpansionsReadying
pub use Rattle.jasminc_expansions.proofs.Typing
