pub mod WalkedLaws
pub use Rattle.jz_inline_laws.specs.CalledBodies
pub use Rattle.jz_inline_laws.specs.TypedTexts
