-- The same definitions by the outermost layer of an expression, as the code goes over it.
use Rattle.std.specs.Prelude.{Bool, false, Option, Some, None, if◌then◌else◌, ◌&&◌, ◌||◌, ℕ, ℤ}
use Rattle.jz_tree.specs.declared.expr.Expr.TheOpen.{Expr-F}
use Rattle.jz_select.specs.Trees.{Named, named_variable, names_eq, Tree, index_of}
use Rattle.jz_select.specs.Places.{Layer, Answers, same_index, touches}
use Rattle.jz_tree.specs.declared.expr.Expr.TheViews.{out-Access}
use Rattle.jz_select.specs.declared.pattern.Pattern.{Pattern}
use Rattle.jz_select.specs.declared.pattern.Pattern.TheVariants as pattern
use Rattle.jz_type_names.specs.Kinds.{known_of}
use Rattle.jz_select.specs.Operands.{class_of, var_class}
use Rattle.jz_select.specs.Rows.{is_flag}
use Rattle.jz_select.specs.Shapes.{compares, has_flags}
use Rattle.std.specs.Ordering.{int_eq}

-- whether a variable, or its cell with that index, stands in the expression
abbrev pub touches_layer : Answers → Named → Option Tree → Layer → Bool
touches_layer answers d x (Expr-F.Num n at) = false
touches_layer answers d x (Expr-F.Expr::Bool b at) = false
touches_layer answers d x (Expr-F.Var v) = names_eq (named_variable v) d
touches_layer answers d x (Expr-F.Cell v at) =
    (names_eq (named_variable v) d && same_index answers x (index_of at)) || touches answers d x at
touches_layer answers d x (Expr-F.Load a) = touches answers d x (out-Access a).at
touches_layer answers d x (Expr-F.Neg a at) = touches answers d x a
touches_layer answers d x (Expr-F.Not a at) = touches answers d x a
touches_layer answers d x (Expr-F.Cast z s a at) = touches answers d x a
touches_layer answers d x (Expr-F.Bin o a b at) = touches answers d x b || touches answers d x a

abbrev pub row_if : ℕ → Bool → Option Pattern
row_if n fits = if fits then Some (pattern.P n) else None

-- what has an instruction as a condition
abbrev pub flags_layer : Layer → Bool
flags_layer (Expr-F.Num n at) = false
flags_layer (Expr-F.Expr::Bool b at) = false
flags_layer (Expr-F.Var v) = is_flag (var_class (known_of v))
flags_layer (Expr-F.Cell v at) = false
flags_layer (Expr-F.Load a) = false
flags_layer (Expr-F.Neg a at) = false
flags_layer (Expr-F.Not a at) = has_flags a
flags_layer (Expr-F.Cast size signed a at) = false
flags_layer (Expr-F.Bin o a b at) = compares o (class_of a) (class_of b)

-- whether two indices are equal, by their values and their trees
abbrev pub indices_eq : Option ℤ → Option ℤ → Bool → Bool
indices_eq None None b = b
indices_eq (Some m) (Some n) b = int_eq m n
indices_eq _ _ b = false
