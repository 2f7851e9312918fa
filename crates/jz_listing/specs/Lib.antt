pub mod Transformers
pub mod Listing
pub mod Listable
