pub mod Lines
pub mod InnerReaders
pub mod InnerPieces
pub mod InnerTrees
pub mod InnerLines
