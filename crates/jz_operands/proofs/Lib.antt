pub mod SumLemmas
pub mod SumRefusals
pub mod OperandLemmas
pub mod OperandRefusals
pub mod TableLemmas
