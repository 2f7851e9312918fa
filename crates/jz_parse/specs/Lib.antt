pub mod Trees
pub mod Grammar
pub mod InnerReaders
pub mod Deriving
pub mod Reading
pub mod NotesTable
pub mod NotesReaders
pub mod StmtTrees
pub mod Table
pub mod StmtReaders
pub use Rattle.jz_parse_expr.specs.Operators
pub use Rattle.jz_parse_expr.specs.Table as ParseExprTable
pub use Rattle.jz_parse_expr.specs.Trees as ParseExprTrees
