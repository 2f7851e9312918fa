pub mod Called
pub use Rattle.jz_code.specs.declared.code.MachineCode
pub use Rattle.jz_code.specs.Made
pub use Rattle.jz_code.specs.Assembling
pub use Rattle.jz_code.specs.Framed
pub use Rattle.jz_code.specs.Laying
