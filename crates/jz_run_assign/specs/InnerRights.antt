-- Right sides as the code has them, without trees of their own: the expressions that they stand
-- for.
use Rattle.std.specs.Prelude.{◌≡◌, true}
use Rattle.jz_tree.specs.declared.expr.Expr.{Expr}
use Rattle.jz_tree.specs.declared.expr.Expr.TheVariants as expr
use Rattle.jz_tree.specs.Operators.{carries}
use Rattle.jz_meaning.specs.Assignments.{is_flag}
use Rattle.jz_run_assign.specs.declared.right.Place.{Place}
use Rattle.jz_run_assign.specs.declared.right.Place.TheVariants as place
use Rattle.jz_run_assign.specs.declared.right.Operand.{Operand}
use Rattle.jz_run_assign.specs.declared.right.Operand.TheVariants as operand
use Rattle.jz_run_assign.specs.declared.right.Right.{Right}
use Rattle.jz_run_assign.specs.declared.right.Right.TheVariants as right

-- what a left side has
abbrev pub read_of : Place → Expr
read_of (place.Variable x) = expr.Var x.now
read_of (place.Cell x i) = expr.Cell x.now i.now
read_of (place.Memory a) = expr.Load a.now

abbrev pub operand_of : Operand → Expr
operand_of (operand.Value e) = e.now
operand_of (operand.Old p) = read_of p

abbrev pub right_side : Right → Expr
right_side (right.Plain e) = e.now
right_side (right.Update op d e at) = expr.Bin op (read_of d) e.now at
right_side (right.Carry op inner d e c at) = expr.Bin op (expr.Bin inner (read_of d) e.now at) c.now at

-- two sums or two differences, of which the second is with a flag
abbrev pub IsCarry : Right → Type 0
IsCarry (right.Carry op inner d e c at) = (carries op inner ≡ true) × (is_flag c.now ≡ true)
IsCarry _ = Unit {0}
