pub mod KindLemmas
pub mod Regions
pub mod Printed
mod Examples
