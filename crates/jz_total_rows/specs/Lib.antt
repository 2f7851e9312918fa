pub mod Expanded
pub mod Covered
pub mod Laws
pub mod Variables
