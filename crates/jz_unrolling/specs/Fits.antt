-- Which trees can be unrolled, where this is known, and what is known behind them: what is asked for
-- has a value. Behind an `if` that stays nothing is known of what its arms set, and before a `while`
-- that stays nothing of what it sets.
use Rattle.std.specs.Prelude.{ℤ, ◌≡◌, Bool, true, false, if◌then◌else◌, List, [], ◌∷◌, Option, Some, ⊤}
use Rattle.jz_tree.specs.declared.expr.Expr.{Expr}
use Rattle.jz_tree.specs.declared.stmt.Lval.{Lval}
use Rattle.jz_tree.specs.declared.stmt.Lval.TheVariants as lval
use Rattle.jz_type_names.specs.Kinds.{is_inline}
use Rattle.jz_integers.specs.Integers.{KnownNumbers}
use Rattle.jz_meaning.specs.Trees.{done, op, quiet, choose, loop, each}
use Rattle.jz_meaning.specs.Statements.{Operation, assign, instruction, unset, meaningless, Condition, Counter, Block}
use Rattle.jz_change.specs.declared.change.Numbers.{Numbers}
use Rattle.jz_unroll.specs.Values.{InlineNames, is_inline_var}
use Rattle.jz_unrolling_values.specs.Parts.{IsInlineIf}
use Rattle.jz_unrolling.specs.Forgetting.{forgotten}
use Rattle.jz_unroll.specs.Unrolling.{with_number, number_of, UnrollsOp, UnrollsMark, UnrollsTest, UnrollsLoopTest, HasValues, IsConstant}

-- ---- operations

-- what sets one inline variable is inline, and so is its condition
abbrev pub SetsInline : InlineNames → List Lval → Expr → Option Expr → Type 0
SetsInline names (lval.Var v ∷ []) x c =
    is_inline_var names v ≡ true → (is_inline x ≡ true) × IsInlineIf c
SetsInline names to x c = ⊤

-- it is a statement, and a call is none
abbrev pub IsPlainOp : InlineNames → Operation → Type 0
IsPlainOp names (assign to o x c at) = SetsInline names to x c
IsPlainOp names (instruction to n args at) = ⊤
IsPlainOp names (unset vs) = ⊤
IsPlainOp names (meaningless at) = ⊥

-- ---- trees

module _ (names : InlineNames) where
  mutual
    pub data Fits : Block → KnownNumbers → KnownNumbers → Type 0 where
      fits_done : {e : KnownNumbers} → Fits done e e
      fits_op :
          {o : Operation} {r : Block} {e e1 e2 : KnownNumbers} {os : List Operation}
          {is : List Numbers}
          → IsPlainOp names o → UnrollsOp names o e os is e1 → Fits r e1 e2 → Fits (op o r) e e2
      fits_quiet :
          {o o2 : Operation} {r : Block} {e e1 e2 : KnownNumbers}
          → UnrollsMark names o e o2 e1 → Fits r e1 e2 → Fits (quiet o r) e e2
      fits_if :
          {p p2 : Condition} {a b r : Block} {e ea eb e2 : KnownNumbers} {os : List Operation}
          {is : List Numbers} {i : Numbers}
          → UnrollsTest names p e os is p2 i → Fits a e ea → Fits b e eb
          → Fits r (forgotten names b (forgotten names a e)) e2 → Fits (choose p a b r) e e2
      fits_arm :
          {p : Condition} {a b r : Block} {e e1 e2 : KnownNumbers} (z : Bool)
          → IsConstant p e z → Fits (if z then a else b) e e1 → Fits r e1 e2
          → Fits (choose p a b r) e e2
      fits_while :
          {h : Bool} {p p2 : Condition} {q b r : Block} {e eq eb e2 : KnownNumbers}
          {os : List Operation} {is : List Numbers} {i : Numbers}
          → (IsConstant p e false → ⊥) → Fits q (forgotten names b (forgotten names q e)) eq
          → UnrollsLoopTest names p eq os is p2 i → Fits b eq eb
          → Fits r (forgotten names b (forgotten names q e)) e2 → Fits (loop h q p b r) e e2
      -- false before it and behind its prologue
      fits_once :
          {h : Bool} {p : Condition} {q b r : Block} {e eq e2 : KnownNumbers}
          → IsConstant p e false → Fits q e eq → IsConstant p eq false → Fits r eq e2
          → Fits (loop h q p b r) e e2
      fits_for :
          {f : Counter} {b r : Block} {e e1 e2 : KnownNumbers} {is : List ℤ}
          → is_inline f.from ≡ true → is_inline f.to ≡ true → HasValues names f e is
          → FitsEach f b is e e1
          → Fits r (with_number e1 f.counter (number_of e f.counter)) e2 → Fits (each f b r) e e2

    pub data FitsEach : Counter → Block → List ℤ → KnownNumbers → KnownNumbers → Type 0 where
      fits_none : {f : Counter} {b : Block} {e : KnownNumbers} → FitsEach f b [] e e
      fits_more :
          {f : Counter} {b : Block} {i : ℤ} {is : List ℤ} {e e1 e2 : KnownNumbers}
          → Fits b (with_number e f.counter (Some i)) e1 → FitsEach f b is e1 e2
          → FitsEach f b (i ∷ is) e e2
