pub mod PlainInsns
pub mod Cases
pub mod Places
pub mod Moves
pub mod Follow
pub mod Fitting
pub mod KeptRegs
pub mod NodeLines
