pub mod Statements
pub mod Bodies
pub use Rattle.jz_flag_runs.specs.Conditions
pub use Rattle.jz_flag_runs.specs.Instructions
pub use Rattle.jz_flag_runs.specs.Results
pub use Rattle.jz_flag_runs.specs.Rows
pub use Rattle.jz_flag_runs.specs.Wide
