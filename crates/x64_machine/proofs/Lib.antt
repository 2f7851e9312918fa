pub mod MachineRunning
pub mod Following
pub use Rattle.x64_decode.proofs.DecodeExact
