pub mod Names
pub mod InnerNumbers
