-- The statements that stand in one, without itself.
use Rattle.std.specs.Prelude.{List, [], ◌++◌, Some, None}
use Rattle.jz_tree.specs.declared.stmt.Stmt.{Stmt}
use Rattle.jz_tree.specs.declared.stmt.StmtKind.{StmtKind}
use Rattle.jz_tree.specs.declared.stmt.StmtKind.TheOpen.{StmtKind-F}
use Rattle.jz_tree.specs.declared.stmt.StmtKind.TheViews.{out-StmtKind}
use Rattle.jz_type_names.specs.Parts.{Layer, statements_of}

abbrev pub nested_layer : Layer → List Stmt
nested_layer (StmtKind-F.If c a b) = statements_of a ++ statements_of b
nested_layer (StmtKind-F.While p c None) = statements_of p
nested_layer (StmtKind-F.While p c (Some b)) = statements_of p ++ statements_of b
nested_layer (StmtKind-F.For i from down to b) = statements_of b
nested_layer _ = []

abbrev pub nested_of : StmtKind → List Stmt
nested_of k = nested_layer (out-StmtKind k)
