-- What an expression and its parts become.
use Rattle.std.specs.Prelude.{ℤ, ◌≡◌, ◌&&◌, Bool, true, false, is_none, List, [], ◌∷◌, Option, Some, None, ⊤}
use Rattle.jz_tree.specs.Span.{Span}
use Rattle.jz_tree.specs.declared.expr.BinOp.{BinOp}
use Rattle.jz_tree.specs.declared.expr.Expr.{Expr}
use Rattle.jz_tree.specs.declared.expr.Expr.TheVariants.{Bin, Num}
use Rattle.jz_tree.specs.declared.expr.Expr.TheVariants as expr
use Rattle.jz_tree.specs.declared.expr.Var.{Var}
use Rattle.jz_tree.specs.declared.expr.Expr.TheViews.{out-Var}
use Rattle.jz_tree.specs.declared.stmt.Lval.{Lval}
use Rattle.jz_tree.specs.declared.stmt.Lval.TheVariants as lval
use Rattle.jz_type_names.specs.Kinds.{is_inline}
use Rattle.jz_type_names.specs.Parts.{span_of}
use Rattle.jz_integers.specs.Integers.{KnownNumbers, number, joined, inline_value}
use Rattle.jz_integers.specs.declared.constant.Constant.{Constant}
use Rattle.jz_integers.specs.declared.constant.Constant.TheVariants as constant
use Rattle.jz_meaning.specs.Assignments.{whole_of}
use Rattle.jz_change.specs.declared.change.Numbers.TheVariants.{Same}
use Rattle.jz_meaning.specs.Values.{ref_of}
use Rattle.jz_unroll.specs.Values.{InlineNames, is_inline_var, is_int, has_no_cell, with_values, has_values, is_split}
use Rattle.jz_unroll.specs.Unrolling.{HasValue, UnrollsLoopTest}
use Rattle.jz_unrolling_values.specs.declared.conditions.Test.{Test}
use Rattle.jz_unrolling_values.specs.declared.conditions.Test.TheVariants.{Always, Asked}
use Rattle.jz_unrolling_values.specs.declared.expressions.Waiting.{Waiting}
use Rattle.jz_unrolling_values.specs.declared.parts.Part.{Part}
use Rattle.jz_unrolling_values.specs.declared.parts.Part.TheVariants.{Inline, Plain}

-- the expression that the operations make of what stands first, the outermost of them at the head
abbrev pub on_left : List Waiting → Expr → Expr
on_left [] x = x
on_left (w ∷ ws) x = Bin w.op (on_left ws x) w.right.now w.span

-- a constant as it stands in a text
abbrev pub written_at : Span → Constant → Expr
written_at at (constant.Int i) = Num i at
written_at at (constant.Bool b) = expr.Bool b at

module _ (names : InlineNames) (e : KnownNumbers) where
  -- an expression by itself
  pub record IsValued (x y : Expr) : Type 0 where
    pub copy : y ≡ with_values e x
    pub known : has_values names e x ≡ true

  pub record IsInlinePart (x : Expr) (found : Option Constant) (at : Span) : Type 0 where
    pub inline : is_inline x ≡ true
    pub whole : has_no_cell x ≡ true
    pub value : found ≡ inline_value e x
    pub place : at ≡ span_of x

  pub record IsPlainPart (x y : Expr) : Type 0 where
    pub plain : is_inline x ≡ false
    pub valued : IsValued x y

  abbrev pub IsPart : Expr → Part → Type 0
  IsPart x (Inline found at) = IsInlinePart x found at
  IsPart x (Plain y) = IsPlainPart x y

  abbrev pub IsTest : Expr → Test → Type 0
  IsTest x (Always z at) =
      (is_inline x ≡ true) × HasValue e x (constant.Bool z) × (at ≡ span_of x)
  IsTest x (Asked y) = IsPlainPart x y

  -- the test of a `while` that stays
  abbrev pub IsLoopTest : Expr → Expr → Type 0
  IsLoopTest x y =
      (at : Span)
      → UnrollsLoopTest names (record { cond = x; at = at }) e [] []
      (record { cond = y; at = at }) Same

-- an inline condition that is false
abbrev pub IsNever : KnownNumbers → Expr → Type 0
IsNever e x = (is_inline x ≡ true) × HasValue e x (constant.Bool false)

-- an inline variable as a whole, and an integer
abbrev pub is_number : InlineNames → Var → Bool
is_number names v =
    is_none (ref_of v).cell && (is_int (ref_of v).kind && is_inline_var names v)

-- a value, or that of an operation on the variable and it
abbrev pub updated_value :
    KnownNumbers → Var → Option BinOp → Option Constant → Option Constant
updated_value e v None found = found
updated_value e v (Some o) found =
    joined o (number (e (out-Var v).name (out-Var v).copy)) found

-- the whole right side of what sets this variable is this number
abbrev pub HasWhole : KnownNumbers → Var → Option BinOp → Expr → ℤ → Type 0
HasWhole e v o x n =
    (y : Expr)
    × (whole_of (Some (lval.Var v)) o x ≡ Some y)
    × HasValue e y (constant.Int n)

-- without an operation on the left side
abbrev pub StandsApart : List Lval → Option BinOp → Expr → Type 0
StandsApart to None x = is_split to (Some x) ≡ true
StandsApart to (Some op) x = ⊤

-- of an absent condition nothing is asked
abbrev pub IsInlineIf : Option Expr → Type 0
IsInlineIf None = ⊤
IsInlineIf (Some c) = is_inline c ≡ true
