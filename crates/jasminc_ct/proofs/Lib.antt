pub mod FirstCauses
pub mod Lines
pub mod Judged
pub mod Readying
