pub mod Naming
pub mod Bounds
pub mod Stating
pub mod Refusals
pub mod Meeting
pub mod Permitted
pub mod InnerTables
