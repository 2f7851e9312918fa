pub mod Booleans
pub mod Fixed
pub mod Looks
pub mod Copied
pub mod Flags
pub mod Assigned
pub mod Instructed
pub mod Selected
