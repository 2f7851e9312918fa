pub mod InnerFields
