pub mod Leaking
pub mod InnerLeaking
