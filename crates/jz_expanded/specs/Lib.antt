pub mod Valued
pub mod Laws
