pub mod Totals
pub mod Sums
pub mod Regions
pub mod Firm
pub mod Apart
pub mod Marks
pub mod Going
