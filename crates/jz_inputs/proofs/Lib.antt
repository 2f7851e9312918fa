pub mod Multiples
pub mod Taken
pub mod Covered
pub mod Pieces
pub mod Filling
pub mod SameRefusals
pub mod Meets
