pub mod Steps
pub mod MachineRuns
pub use Rattle.x64_decode.specs.Decoding
pub use Rattle.x64_decode.specs.declared.Decoded
