pub mod Bounds
pub mod Fitting
pub mod Orders
pub mod Meaning
pub mod NeedLaw
pub mod Seating
