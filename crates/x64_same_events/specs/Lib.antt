pub mod SameEvents
pub use Rattle.x64_machine.specs.Steps
