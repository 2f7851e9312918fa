pub mod Causes
pub mod Making
pub mod Calls
pub mod Answers
pub mod InnerMaking
pub use Rattle.jasminc_compile.specs.declared.stages.Compilation
pub use Rattle.jasminc_compile.specs.Answers as CompileAnswers
pub use Rattle.jasminc_compile.specs.Causes as CompileCauses
pub use Rattle.jasminc_compile.specs.Making as CompileMaking
pub use Rattle.jasminc_compile.specs.declared.refused.Refused as CompileRefused
pub use Rattle.jasminc_compile.specs.SafeFunctions
pub use Rattle.jasminc_compile.specs.Said
pub use Rattle.jasminc_compile.specs.declared.outcome.Unmade
