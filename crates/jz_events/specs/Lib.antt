pub mod Outs
pub mod Cases
pub mod Laws
