pub mod Places
pub mod HasType
pub mod Lefts
pub mod WellTyped
pub mod Agreement
pub use Rattle.jz_type_sizes.specs.Lengths
pub use Rattle.jz_type_sizes.specs.Mismatches
