pub mod Keys
pub mod Inlined
pub mod Valued
pub mod Numbers
