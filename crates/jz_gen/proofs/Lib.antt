mod Examples
mod Lines
mod Short
