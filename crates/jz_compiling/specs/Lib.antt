pub mod Made
pub mod Refused
pub mod InnerParts
pub use Rattle.jz_lowering.specs.Functions
pub use Rattle.jz_joined.specs.Making
pub use Rattle.jz_signature.specs.Laws as SignatureLaws
pub use Rattle.jz_lowering.specs.declared.functions.LoweredFun
