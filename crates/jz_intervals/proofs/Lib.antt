pub mod Nearest
pub mod Found
pub mod Among
pub mod Shifts
