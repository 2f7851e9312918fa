pub mod FunctionRuns
pub use Rattle.jz_inline.specs.Functions
pub use Rattle.jz_inline.specs.Statements
