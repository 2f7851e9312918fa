pub mod Entries
pub mod Runs
pub mod Made
pub use Rattle.jz_stack.specs.Laying
pub use Rattle.x64_assemble.specs.Assembling
pub use Rattle.x64_assemble.specs.CodeRuns
pub use Rattle.jz_stack.specs.Framed
