pub mod Operations
pub mod KeptLaws
