pub mod Ended
pub mod OnItems
pub mod OfTexts
pub use Rattle.jasminc_called.proofs.Coming
pub use Rattle.jasminc_called.proofs.Showing
