pub mod Values
pub mod Unrolling
pub mod ValueLaws
