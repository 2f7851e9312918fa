pub mod Ready
pub mod InnerParts
