pub mod HeadLaws
pub use Rattle.jz_plain_expansions.specs.PlainExpansions
pub use Rattle.jz_never_stuck.specs.Safety
pub use Rattle.jz_plain_expansions.specs.Variables
