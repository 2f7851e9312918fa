pub mod Clean
pub mod Splits
pub mod States
pub mod Listings
pub mod Nexts
pub mod Others
