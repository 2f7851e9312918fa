pub mod Classes
pub mod ClassLaws
