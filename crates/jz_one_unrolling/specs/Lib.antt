pub mod OneUnrolling
