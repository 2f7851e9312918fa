pub mod Forgetting
pub mod Fits
pub mod Steps
pub mod Refusals
pub mod Unrolled
pub use Rattle.jz_function_runs.specs.FunctionRuns
