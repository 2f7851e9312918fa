pub mod MemorySpans
pub mod Residues
pub mod Rotations
