pub mod Encodable
pub mod InnerOperands
