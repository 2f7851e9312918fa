-- A statement in the words of the table.
use Rattle.std.specs.Prelude.{Bool, false, ◌&&◌, ◌||◌, not, List, [], ◌∷◌, Option, Some, None, if◌then◌else◌}
use Rattle.jz_tree.specs.Operators.{divides, carries}
use Rattle.jz_tree.specs.declared.expr.BinOp.{BinOp}
use Rattle.jz_tree.specs.declared.expr.Expr.{Expr}
use Rattle.jz_tree.specs.declared.expr.Ty.{Ty}
use Rattle.jz_tree.specs.declared.expr.Access.{Access}
use Rattle.jz_tree.specs.declared.expr.Decl.{Decl}
use Rattle.jz_tree.specs.declared.expr.Var.{Var}
use Rattle.jz_tree.specs.declared.expr.Expr.TheOpen.{Expr-F}
use Rattle.jz_tree.specs.declared.expr.Expr.TheViews.{out-Expr}
use Rattle.jz_tree.specs.declared.expr.Expr.TheFolds.{para-Expr}
use Rattle.jz_tree.specs.declared.stmt.Lval.{Lval}
use Rattle.jz_tree.specs.declared.stmt.Rhs.{Rhs}
use Rattle.jz_tree.specs.declared.stmt.Rhs.TheVariants as rhs
use Rattle.jz_tree.specs.declared.stmt.Stmt.{Stmt}
use Rattle.jz_tree.specs.declared.stmt.StmtKind.{StmtKind}
use Rattle.jz_tree.specs.declared.stmt.StmtKind.TheOpen.{StmtKind-F}
use Rattle.jz_tree.specs.declared.stmt.StmtKind.TheViews.{out-StmtKind}
use Rattle.jz_select.specs.declared.class.Class.{Class}
use Rattle.jz_select.specs.declared.class.Class.TheVariants as class
use Rattle.jz_select.specs.declared.class.Meeting.TheVariants as meeting
use Rattle.jz_select.specs.declared.class.Operand.{Operand}
use Rattle.jz_tree.specs.declared.intrinsic.Intrinsic.{Intrinsic}
use Rattle.jz_tree.specs.declared.intrinsic.Intrinsic.TheVariants as name
use Rattle.jz_select.specs.declared.shape.Value.{Value}
use Rattle.jz_select.specs.declared.shape.Value.TheVariants as values
use Rattle.jz_select.specs.declared.shape.Shape.{Shape}
use Rattle.jz_select.specs.declared.shape.Shape.TheVariants as shapes
use Rattle.jz_tree.specs.declared.intrinsic.Instance.{Instance}
use Rattle.jz_select.specs.declared.shaping.Flags.{Flags}
use Rattle.jz_select.specs.declared.shaping.Flags.TheVariants as flags
use Rattle.jz_type_names.specs.Kinds.{known_of}
use Rattle.jz_select.specs.Look.{look_of, terms_of, compares_values}
use Rattle.jz_select.specs.Sums.{is_sum}
use Rattle.jz_select.specs.Places.{Layer, Answers}
use Rattle.jz_select.specs.Operands.{class_of, dest_of, operand_of, var_class}
use Rattle.jz_tree.specs.Spellings.{spelled}
use Rattle.jz_select.specs.Rows.{is_m, is_rm, is_rmi, is_flag, is_flag_result, is_apart}

-- ---- operands
-- which answers hold for an operand, by its destination and, but for a division, by the first
-- operand
abbrev pub Asked : Type 0
Asked = Lval → Option Expr → Answers

-- one answer to each comparison
abbrev pub whichever : Answers → Asked
whichever answers d a = answers

abbrev pub first_of : BinOp → Expr → Option Expr
first_of o a = if divides o then None else Some a

-- the destination as the first operand
abbrev pub itself : Lval → Operand
itself d = record { class = dest_of d; meeting = meeting.Same }

-- ---- conditions
-- `a cmp o`, a R or M, at most one M
abbrev pub compares : BinOp → Class → Class → Bool
compares p a o = compares_values p && (is_rm a && (is_rmi o && not (is_m a && is_m o)))

abbrev pub TestLayer : Type 0
TestLayer =
    Expr-F (Expr × Bool) (Ty × Unit {0}) (Access × Unit {0}) (Decl × Unit {0}) (Var × Unit {0})

abbrev pub flags_step : TestLayer → Bool
flags_step (Expr-F.Num n at) = false
flags_step (Expr-F.Expr::Bool b at) = false
flags_step (Expr-F.Var v) = is_flag (var_class (known_of v.0))
flags_step (Expr-F.Cell v at) = false
flags_step (Expr-F.Load a) = false
flags_step (Expr-F.Neg a at) = false
flags_step (Expr-F.Not a at) = a.1
flags_step (Expr-F.Cast size signed a at) = false
flags_step (Expr-F.Bin o a b at) = compares o (class_of a.0) (class_of b.0)

-- a comparison, a bool variable, or one of these denied: what has an instruction
unfoldable pub has_flags : Expr → Bool
has_flags = para-Expr Bool (Unit {0}) (Unit {0}) (Unit {0}) (Unit {0}) flags_step
    (λ x. tt) (λ x. tt) (λ x. tt) (λ x. tt)

-- of an `if` or `while`: also an inline condition
abbrev pub is_test : Expr → Bool
is_test c = has_flags c || (look_of c).condition

-- `d = e if c`
abbrev pub conditional : List Lval → Option BinOp → Rhs → Expr → Shape
conditional (d ∷ []) None (rhs.Value e) c =
    shapes.Conditional (dest_of d) (class_of e) (has_flags c)
conditional _ p e c = shapes.Free

-- ---- intrinsics
abbrev pub leads : Lval → Bool
leads d = is_flag_result (dest_of d)

abbrev pub if_lead : Bool → Lval → Option Lval
if_lead b d = if b then Some d else None

abbrev pub two_lead : Lval → Lval → Bool
two_lead of' cf = leads of' && leads cf

abbrev pub four_lead : Lval → Lval → Lval → Lval → Bool
four_lead of' sf pf zf = leads of' && (leads sf && (leads pf && leads zf))

abbrev pub five_lead : Lval → Lval → Lval → Lval → Lval → Bool
five_lead of' cf sf pf zf = leads of' && (leads cf && (leads sf && (leads pf && leads zf)))

-- the value behind so many flag results
abbrev pub value_behind : Flags → List Lval → Option Lval
value_behind flags.Zero (d ∷ []) = Some d
value_behind flags.Two (of' ∷ cf ∷ d ∷ []) = if_lead (two_lead of' cf) d
value_behind flags.Four (of' ∷ sf ∷ pf ∷ zf ∷ d ∷ []) = if_lead (four_lead of' sf pf zf) d
value_behind flags.Five (of' ∷ cf ∷ sf ∷ pf ∷ zf ∷ d ∷ []) = if_lead (five_lead of' cf sf pf zf) d
value_behind _ _ = None

abbrev pub address_shape : Instance → Option Lval → List Expr → Shape
address_shape i (Some d) (a ∷ []) = shapes.Address i.size (dest_of d) (is_sum (terms_of a))
address_shape i d args = shapes.Free

abbrev pub set_shape : Instance → Option Lval → List Expr → Shape
set_shape i (Some d) (c ∷ []) = shapes.Set i.size (dest_of d) (has_flags c)
set_shape i d args = shapes.Free

abbrev pub compare_shape : Instance → List Lval → List Expr → Shape
compare_shape i (of' ∷ cf ∷ sf ∷ pf ∷ zf ∷ []) (a ∷ o ∷ []) =
    if five_lead of' cf sf pf zf then shapes.Compare i.name (class_of a) (class_of o)
    else shapes.Free
compare_shape i to args = shapes.Free

module _ (asked : Asked) where
  -- an operand of an operation that has that first operand
  abbrev pub beside : Lval → Option Expr → Expr → Operand
  beside d a e = operand_of (asked d a) d e

  -- ---- right sides
  -- a sum or difference that ends with a flag
  abbrev pub carry_layer : Lval → BinOp → Layer → Value
  carry_layer d o (Expr-F.Bin p a b at) =
      if carries o p then values.Carry o (beside d (Some a) a) (beside d (Some a) b)
      else values.Alone
  carry_layer d o _ = values.Alone

  -- an operation of two operands beside its destination
  abbrev pub two_beside : Lval → BinOp → Expr → Expr → Value
  two_beside d o a b = values.Two o (beside d (first_of o a) a) (beside d (first_of o a) b)

  abbrev pub value_layer : Lval → Layer → Value
  value_layer d (Expr-F.Bin o a b at) =
      if is_flag (class_of b) then carry_layer d o (out-Expr a) else two_beside d o a b
  value_layer d (Expr-F.Neg a at) = values.One (beside d (Some a) a)
  value_layer d (Expr-F.Not a at) = values.One (beside d (Some a) a)
  value_layer d (Expr-F.Cast z signed a at) = values.Cast z signed (class_of a)
  value_layer d _ = values.Alone

  -- the operation of `d op= e`
  abbrev pub update_layer : Lval → BinOp → Expr → Layer → Value
  update_layer d o e (Expr-F.Bin p a b at) =
      if carries o p && is_flag (class_of b) then values.Carry o (itself d) (beside d None a)
      else values.Two o (itself d) (beside d None e)
  update_layer d o e _ = values.Two o (itself d) (beside d None e)

  -- `d = e`, or `d op= e`, which is `d = d op e`
  abbrev pub assign_of : Option Class → Lval → Option BinOp → Expr → Shape
  assign_of lead d None e = shapes.Assign lead (dest_of d) (class_of e) (value_layer d (out-Expr e))
  assign_of lead d (Some o) e =
      shapes.Assign lead (dest_of d) class.Other (update_layer d o e (out-Expr e))

  abbrev pub value_shape : List Lval → Option BinOp → Expr → Shape
  value_shape (d ∷ []) p e = assign_of None d p e
  value_shape (x ∷ d ∷ []) p e = assign_of (Some (dest_of x)) d p e
  value_shape _ p e = shapes.Free

  -- ---- intrinsics with operands beside their results
  abbrev pub one_shape : Instance → Option Lval → List Expr → Shape
  one_shape i (Some d) (a ∷ []) = shapes.One i.name i.size (dest_of d) (beside d (Some a) a)
  one_shape i d args = shapes.Free

  abbrev pub two_shape : Instance → Option Lval → List Expr → Shape
  two_shape i (Some d) (a ∷ o ∷ []) =
      shapes.Two i.name i.size (dest_of d) (beside d (Some a) a) (beside d (Some a) o)
  two_shape i d args = shapes.Free

  abbrev pub three_shape : Instance → Option Lval → List Expr → Shape
  three_shape i (Some d) (a ∷ o ∷ c ∷ []) =
      shapes.Three i.name (dest_of d) (beside d (Some a) a) (beside d (Some a) o) (class_of c)
  three_shape i d args = shapes.Free

  abbrev pub product_shape : Instance → List Lval → List Expr → Shape
  product_shape i (of' ∷ cf ∷ sf ∷ pf ∷ zf ∷ h ∷ l ∷ []) (a ∷ b ∷ []) =
      if five_lead of' cf sf pf zf
      then shapes.Product i.size (dest_of h) (dest_of l) (beside l (Some a) a) (beside l (Some a) b)
      else shapes.Free
  product_shape i to args = shapes.Free

  -- the quotient is not in the high word or the divisor, the remainder not in the divisor
  abbrev pub stand_apart : Lval → Lval → Expr → Expr → Bool
  stand_apart q r hi b =
      is_apart (beside q None hi) && (is_apart (beside q None b) && is_apart (beside r None b))

  abbrev pub division_shape : Instance → List Lval → List Expr → Shape
  division_shape i (of' ∷ cf ∷ sf ∷ pf ∷ zf ∷ q ∷ r ∷ []) (hi ∷ lo ∷ b ∷ []) =
      if five_lead of' cf sf pf zf
      then shapes.Division i.size (dest_of q) (dest_of r) (class_of hi) (class_of lo) (class_of b)
      (stand_apart q r hi b)
      else shapes.Free
  division_shape i to args = shapes.Free

  -- each intrinsic by its results and operands
  abbrev pub intrinsic_shape : Intrinsic → Instance → List Lval → List Expr → Shape
  intrinsic_shape name.Neg i to args = one_shape i (value_behind flags.Five to) args
  intrinsic_shape name.Inc i to args = one_shape i (value_behind flags.Four to) args
  intrinsic_shape name.Dec i to args = one_shape i (value_behind flags.Four to) args
  intrinsic_shape name.Not i to args = one_shape i (value_behind flags.Zero to) args
  intrinsic_shape name.Bswap i to args = one_shape i (value_behind flags.Zero to) args
  intrinsic_shape name.Lea i to args = address_shape i (value_behind flags.Zero to) args
  intrinsic_shape name.Setcc i to args = set_shape i (value_behind flags.Zero to) args
  intrinsic_shape name.Adc i to args = three_shape i (value_behind flags.Five to) args
  intrinsic_shape name.Sbb i to args = three_shape i (value_behind flags.Five to) args
  intrinsic_shape name.Cmp i to args = compare_shape i to args
  intrinsic_shape name.Test i to args = compare_shape i to args
  intrinsic_shape name.Mul i to args = product_shape i to args
  intrinsic_shape name.Div i to args = division_shape i to args
  intrinsic_shape name.Rol i to args = two_shape i (value_behind flags.Two to) args
  intrinsic_shape name.Ror i to args = two_shape i (value_behind flags.Two to) args
  intrinsic_shape _ i to args = two_shape i (value_behind flags.Five to) args

  abbrev pub named_shape : Option Instance → List Lval → List Expr → Shape
  named_shape None to args = shapes.Free
  named_shape (Some i) to args = intrinsic_shape i.name i to args

  -- ---- statements
  abbrev pub rhs_shape : List Lval → Option BinOp → Rhs → Shape
  rhs_shape to p (rhs.Value e) = value_shape to p e
  rhs_shape to None (rhs.Intrinsic n args at) = named_shape (spelled n) to args
  rhs_shape to (Some p) (rhs.Intrinsic n args at) = shapes.Free
  rhs_shape to p (rhs.Call f args at) = shapes.Free

  abbrev pub kind_layer : StmtKind-F StmtKind Stmt → Shape
  kind_layer (StmtKind-F.Assign to p from None) = rhs_shape to p from
  kind_layer (StmtKind-F.Assign to p from (Some c)) = conditional to p from c
  kind_layer (StmtKind-F.If c a b) = shapes.Test (is_test c)
  kind_layer (StmtKind-F.While p c b) = shapes.Test (is_test c)
  kind_layer (StmtKind-F.For i from down to b) = shapes.Free
  kind_layer (StmtKind-F.Mark vs) = shapes.Free

  abbrev pub shape_of : StmtKind → Shape
  shape_of k = kind_layer (out-StmtKind k)
