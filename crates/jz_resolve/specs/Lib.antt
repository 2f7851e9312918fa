pub mod Resolving
pub mod InnerResolving
pub mod Numbering
pub mod Programs
pub mod Tables
pub mod InnerTables
