pub mod Firsts
pub mod Mapping
