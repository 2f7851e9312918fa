pub mod Operators
pub mod Asked
pub mod RightSides
pub mod Updates
pub mod Assigned
pub use Rattle.jz_plain_operands.proofs.Answers
pub use Rattle.jz_plain_operands.proofs.Layers
