pub mod OneParts
pub mod ByForm
pub mod OneForm
pub mod OneStatement
