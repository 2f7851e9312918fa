pub mod Becoming
pub mod ForgetLemmas
pub mod SpareLemmas
pub mod FitLemmas
pub mod RoundLemmas
pub mod AddLemmas
pub mod FormLemmas
pub mod FunctionLemmas
