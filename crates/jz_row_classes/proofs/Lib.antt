pub mod ValueRows
pub mod PairRows
pub mod InstructionRows
pub mod Statements
