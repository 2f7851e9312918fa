pub mod CanBeStarted
