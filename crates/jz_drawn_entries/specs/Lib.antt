pub mod InnerEntries
pub use Rattle.jz_drawn_bodies.specs.Bodies
