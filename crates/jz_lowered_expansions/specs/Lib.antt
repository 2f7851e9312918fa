pub mod LoweredExpansions
