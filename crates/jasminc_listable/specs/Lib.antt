pub mod CanBeListed
