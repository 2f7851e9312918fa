pub mod Laws
pub mod Forms
