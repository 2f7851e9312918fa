pub mod FineBodies
