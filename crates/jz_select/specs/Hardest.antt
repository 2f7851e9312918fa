-- The answers with which a row is hardest to match: where one matches with these, one matches with
-- all.
use Rattle.std.specs.Prelude.{Bool, true, false, not, Option, Some, None, if◌then◌else◌}
use Rattle.jz_tree.specs.declared.expr.Expr.{Expr}
use Rattle.jz_tree.specs.declared.expr.Expr.TheOpen.{Expr-F}
use Rattle.jz_tree.specs.declared.expr.Expr.TheViews.{out-Expr}
use Rattle.jz_tree.specs.declared.stmt.Lval.{Lval}
use Rattle.jz_tree.specs.declared.stmt.Lval.TheVariants as lval
use Rattle.jz_select.specs.Trees.{Named, named_variable, names_eq, Tree, index_of, tree_eq}
use Rattle.jz_select.specs.Places.{Layer, Answers}
use Rattle.jz_select.specs.Operands.{dest_of}
use Rattle.jz_select.specs.Rows.{is_m}
use Rattle.jz_select.specs.Shapes.{Asked}

-- the index of the first operand, where it is a cell of the destination's array
abbrev pub cell_index : Named → Layer → Option Tree
cell_index d (Expr-F.Cell v at) = if names_eq (named_variable v) d then Some (index_of at) else None
cell_index d _ = None

abbrev pub index_beside : Lval → Expr → Option Tree
index_beside (lval.Cell v k) a = cell_index (named_variable v) (out-Expr a)
index_beside d a = None

-- each cell is the destination, but for the first operand; no cell is a destination in memory
abbrev pub guess : Bool → Option Tree → Answers
guess true first x y = false
guess false None x y = true
guess false (Some t) x y = not (tree_eq t y)

abbrev pub in_memory : Lval → Option Expr → Bool
in_memory d None = false
in_memory d (Some a) = is_m (dest_of d)

abbrev pub first_index : Lval → Option Expr → Option Tree
first_index d None = None
first_index d (Some a) = index_beside d a

abbrev pub hardest : Asked
hardest d a = guess (in_memory d a) (first_index d a)
