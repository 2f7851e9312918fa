pub mod PlainExpansions
pub use Rattle.jz_copied_variables.specs.CopiedKinds
pub use Rattle.jz_expansion.specs.Expansions
pub use Rattle.jz_plain_operands.specs.Plain
pub use Rattle.jz_copied_variables.specs.Variables
