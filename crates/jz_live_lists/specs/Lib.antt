pub mod InnerColumns
pub mod InnerOps
pub mod Lists
pub mod Followed
