pub mod Labellings
pub mod Pieces
pub mod Operating
pub mod Renewing
