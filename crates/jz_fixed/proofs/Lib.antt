pub mod FixedBodies
