pub mod Bridge
pub mod TermForms
