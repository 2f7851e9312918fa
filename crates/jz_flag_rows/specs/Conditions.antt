-- Conditions: comparisons, and bool variables, denied or not.
use Rattle.std.specs.Prelude.{◌≡◌, ℕ, ◌+◌, Bool, false, not, List, [], ◌∷◌, Option, Some, None}
use Rattle.x64_insn.specs.declared.types.Cond.{Cond}
use Rattle.jz_io.specs.declared.span.Span.{Span}
use Rattle.jz_tree.specs.declared.expr.Expr.{Expr}
use Rattle.jz_tree.specs.declared.expr.Expr.TheVariants as expr
use Rattle.jz_tree.specs.declared.expr.Var.{Var}
use Rattle.jz_meaning.specs.declared.access.Kind.TheVariants as kind
use Rattle.jz_meaning.specs.Values.{key_of, ref_of}
use Rattle.jz_meaning.specs.Statements as source
use Rattle.jz_operations.specs.declared.operation.Condition.{Condition}
use Rattle.jz_operations.specs.declared.operation.Condition.TheVariants as condition
use Rattle.jz_operations.specs.declared.operation.Operation.{Operation}
use Rattle.jz_row_operations.specs.Variables.{Asked, asks}
use Rattle.jz_change.specs.declared.change.Numbers.{Numbers}
use Rattle.jz_change.specs.declared.change.Numbers.TheVariants.{These}
use Rattle.jz_homes.specs.Homes.{Homes, in_flag}
use Rattle.jz_homes.specs.Operands.{Leaks, count_of}
use Rattle.jz_row_operations.specs.Lowering.{condition_shown, IsCompared}

-- a bool variable, and how often it is denied: its flag, which holds or does not
pub data IsFlagCondition (home : Homes) : Expr → ℕ → Bool → Type 0 where
  a_flag :
      (x : Var) (n : ℕ) → (ref_of x).kind ≡ kind.Bool
      → home (key_of (ref_of x)) ≡ Some (in_flag n)
      → IsFlagCondition home (expr.Var x) n false
  denied :
      {e : Expr} {n : ℕ} {d : Bool} (here : Span)
      → IsFlagCondition home e n d → IsFlagCondition home (expr.Not e here) n (not d)

-- a comparison has CMP before it, at this span, a bool variable nothing; what the operands leak
pub data IsCondition (home : Homes) (at : Span) :
    Expr → Option Operation → Condition → List (Leaks × Leaks) → Type 0 where
  by_comparison :
      {e : Expr} {o : Operation} {c : Cond} {p q : Leaks}
      → IsCompared home at e o c p q
      → IsCondition home at e (Some o) (condition.Cc c) ((p, q) ∷ [])
  by_flag :
      {e : Expr} {n : ℕ} {d : Bool}
      → IsFlagCondition home e n d → IsCondition home at e None (condition.Flag n d) []

-- what a comparison shows, so many numbers being leaked before it
abbrev pub condition_items : List (Leaks × Leaks) → ℕ → List Numbers
condition_items [] i = []
condition_items (p ∷ ps) i = condition_shown p.0 p.1 i ∷ []

-- how many numbers it leaks
abbrev pub leaked : List (Leaks × Leaks) → ℕ
leaked [] = 0
leaked (p ∷ ps) = count_of p.0 + count_of p.1

-- the test of an `if` or a `while` that is a bool variable: nothing is compared and shown
pub data LowersFlagTest (home : Homes) (t : source.Condition) : Asked → Numbers → Type 0 where
  asks_flag :
      {n : ℕ} {d : Bool}
      → IsFlagCondition home t.cond n d
      → LowersFlagTest home t (asks None (condition.Flag n d)) (These [])
