pub mod Ready
pub mod Bodies
