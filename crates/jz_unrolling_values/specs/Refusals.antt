-- When what is asked for is refused.
use Rattle.std.specs.Prelude.{ℤ, ◌≡◌, Bool, true, false, if◌then◌else◌, List, [], ◌∷◌, Option, Result, Ok, Err}
use Rattle.jz_tree.specs.Span.{Span}
use Rattle.jz_tree.specs.declared.expr.BinOp.{BinOp}
use Rattle.jz_tree.specs.declared.expr.Expr.{Expr}
use Rattle.jz_tree.specs.declared.expr.Var.{Var}
use Rattle.jz_tree.specs.declared.stmt.Lval.{Lval}
use Rattle.jz_tree.specs.declared.stmt.Lval.TheVariants as lval
use Rattle.jz_type_names.specs.Kinds.{is_inline}
use Rattle.jz_integers.specs.Integers.{KnownNumbers}
use Rattle.jz_integers.specs.declared.constant.Constant.TheVariants as constant
use Rattle.jz_meaning.specs.Statements.{Operation, Condition}
use Rattle.jz_change.specs.declared.change.Numbers.{Numbers}
use Rattle.jz_unroll.specs.Values.{InlineNames, is_inline_var, has_no_cell, has_values}
use Rattle.jz_unroll.specs.Unrolling.{HasValue, ConditionIs, UnrollsLoopTest}
use Rattle.jz_unrolling_values.specs.declared.conditions.Test.{Test}
use Rattle.jz_unrolling_values.specs.Parts.{IsTest, HasWhole, IsInlineIf}

-- P holds of the value, or it is refused and Q holds
abbrev pub OrElse : {A : Type 0} → (A → Type 0) → Type 0 → Result A Span → Type 0
OrElse P Q (Ok x) = P x
OrElse P Q (Err at) = Q

module _ (names : InlineNames) where
  -- an expression as a part: it is inline and no variable in it is a cell, or it has its values
  abbrev pub is_part : KnownNumbers → Expr → Bool
  is_part e x = if is_inline x then has_no_cell x else has_values names e x

  -- a condition that is inline has no answer, and any other one a part without a value
  abbrev pub NeverTests : KnownNumbers → Expr → Type 0
  NeverTests e c = (test : Test) → IsTest names e c test → ⊥

  -- a `while` with this condition does not stay
  abbrev pub NeverLoops : KnownNumbers → Expr → Type 0
  NeverLoops e c =
      (at : Span) (p : Condition) (os : List Operation) (is : List Numbers) (i : Numbers)
      → UnrollsLoopTest names (record { cond = c; at = at }) e os is p i → ⊥

-- ---- numbers

abbrev pub NeverNumber : KnownNumbers → Expr → Type 0
NeverNumber e x = (n : ℤ) → is_inline x ≡ true → HasValue e x (constant.Int n) → ⊥

-- ---- what is set

-- one variable, and it is inline
abbrev pub SetsOne : InlineNames → List Lval → Var → Type 0
SetsOne names to v = (to ≡ lval.Var v ∷ []) × (is_inline_var names v ≡ true)

abbrev pub SetsNoInline : InlineNames → List Lval → Type 0
SetsNoInline names to = (v : Var) → to ≡ lval.Var v ∷ [] → is_inline_var names v ≡ false

-- what sets one inline variable gets no number, or has no condition with an answer
abbrev pub NeverWhole : KnownNumbers → Var → Option BinOp → Expr → Type 0
NeverWhole e v o x = (n : ℤ) → is_inline x ≡ true → HasWhole e v o x n → ⊥

abbrev pub NeverIf : KnownNumbers → Var → Option Expr → Type 0
NeverIf e v c = (b : Bool) → IsInlineIf c → ConditionIs e v c b → ⊥
