-- Which expressions are words.
use Rattle.std.specs.Prelude.{Bool, true, false, ◌||◌, is_some}
use Rattle.jz_tree.specs.declared.expr.Expr.{Expr}
use Rattle.jz_tree.specs.declared.expr.Expr.TheOpen.{Expr-F}
use Rattle.jz_tree.specs.declared.expr.Expr.TheFolds.{fold-Expr}
use Rattle.jz_type_names.specs.declared.kinds.Kind.{Kind}
use Rattle.jz_type_names.specs.declared.kinds.Declared.{Declared}
use Rattle.jz_type_names.specs.Kinds.{Known, kind_step, declared_step}
use Rattle.jz_type_sizes.specs.declared.operators.Group.{Group}
use Rattle.jz_type_sizes.specs.declared.operators.Group.TheVariants as group
use Rattle.jz_type_sizes.specs.Wants.{known_size, cell_size}
use Rattle.jz_type_sizes.specs.Operators.{group_of}

-- of an operation, by its operands; how far a shift goes says nothing
abbrev pub worded_group : Group → Bool → Bool → Bool
worded_group group.Shift a b = a
worded_group group.Arith a b = b || a
worded_group _ a b = false

abbrev pub worded_step : Expr-F Bool Kind Bool Declared Known → Bool
worded_step (Expr-F.Num n at) = false
worded_step (Expr-F.Expr::Bool b at) = false
worded_step (Expr-F.Var k) = is_some (known_size k)
worded_step (Expr-F.Cell k i) = is_some (cell_size k)
worded_step (Expr-F.Load a) = true
worded_step (Expr-F.Neg a at) = a
worded_step (Expr-F.Not a at) = a
worded_step (Expr-F.Cast z signed a at) = true
worded_step (Expr-F.Bin o a b at) = worded_group (group_of o) a b

-- it is a word, with a size or, as an access, without one
abbrev pub is_worded : Expr → Bool
is_worded =
    fold-Expr Bool Kind Bool Declared Known
    worded_step kind_step (λ a. a.at) declared_step (λ v. v.decl)
