pub mod Apart
pub mod LinesApart
pub mod Spaces
pub mod TransformersApart
