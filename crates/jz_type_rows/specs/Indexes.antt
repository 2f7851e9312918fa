-- RegIndex: an index of a register array is an inline integer.
use Rattle.std.specs.Prelude.{Bool, true, false, not, ◌&&◌, ◌||◌, List, ◌++◌, flat_map}
use Rattle.jz_tree.specs.Span.{Span}
use Rattle.jz_tree.specs.declared.expr.Expr.{Expr}
use Rattle.jz_tree.specs.declared.expr.Var.{Var}
use Rattle.jz_tree.specs.declared.expr.Expr.TheOpen.{Expr-F}
use Rattle.jz_tree.specs.declared.expr.Expr.TheFolds.{fold-Expr}
use Rattle.jz_select.specs.Look.{gives_number}
use Rattle.jz_type_names.specs.Order.{unless}
use Rattle.jz_type_names.specs.Parts.{Layer, span_of, cells_in, exprs_of, cells_set}
use Rattle.jz_type_names.specs.declared.kinds.Kind.{Kind}
use Rattle.jz_type_names.specs.declared.kinds.Declared.{Declared}
use Rattle.jz_type_names.specs.Kinds.{Known, known_of, is_register_array, is_inline_int, kind_step, declared_step, known_step}

abbrev pub integer_step : Expr-F Bool Kind Bool Declared Known → Bool
integer_step (Expr-F.Num n at) = true
integer_step (Expr-F.Expr::Bool b at) = false
integer_step (Expr-F.Var k) = is_inline_int k
integer_step (Expr-F.Cell k i) = false
integer_step (Expr-F.Load a) = false
integer_step (Expr-F.Neg a at) = a
integer_step (Expr-F.Not a at) = a
integer_step (Expr-F.Cast z signed a at) = false
integer_step (Expr-F.Bin o a b at) = gives_number o && (b && a)

-- it is built of numbers, inline variables and operations that give integers; an unknown name
-- counts as inline
abbrev pub is_inline_integer : Expr → Bool
is_inline_integer = fold-Expr Bool Kind Bool Declared Known integer_step kind_step (λ a. a.at) declared_step known_step

abbrev pub indexed_at : Var × Expr → List Span
indexed_at c = unless (not (is_register_array (known_of c.0)) || is_inline_integer c.1) (span_of c.1)

abbrev pub indexed_in : Expr → List Span
indexed_in e = flat_map indexed_at (cells_in e)

-- of the cells that the statement sets, and of those in its expressions
abbrev pub indexed_by : Layer → List Span
indexed_by k = flat_map indexed_at (cells_set k) ++ flat_map indexed_in (exprs_of k)
