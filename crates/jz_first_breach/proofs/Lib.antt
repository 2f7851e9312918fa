pub mod Firsts
pub mod Arrays
