pub mod Results
pub mod Wide
pub mod Conditions
pub mod Instructions
pub mod Rows
pub mod Laws
