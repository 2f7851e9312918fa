-- Which operations a statement has, and which of the numbers that it leaks each of them shows.
use Rattle.std.specs.Prelude.{◌≡◌, ◌<◌, ◌≤◌, ℕ, ◌+◌, Bool, true, false, not, ◌&&◌, List, [], ◌∷◌, ◌++◌, All, Option, Some, None, ℤ, pos}
use Rattle.std.specs.Option.{option_or}
use Rattle.jz_words.specs.declared.size.Size.{Size}
use Rattle.jz_words.specs.declared.size.Size.TheVariants.{S8}
use Rattle.jz_words.specs.Sizes.{bits_of}
use Rattle.x64_insn.specs.declared.types.Alu.TheVariants as alu
use Rattle.x64_insn.specs.declared.types.One.{One}
use Rattle.x64_insn.specs.declared.types.Cond.{Cond}
use Rattle.jz_io.specs.declared.span.Span.{Span}
use Rattle.jz_tree.specs.declared.expr.BinOp.{BinOp}
use Rattle.jz_tree.specs.declared.expr.BinOp.TheVariants as op
use Rattle.jz_tree.specs.declared.expr.Expr.{Expr}
use Rattle.jz_tree.specs.declared.expr.Expr.TheVariants as expr
use Rattle.jz_tree.specs.declared.expr.Var.{Var}
use Rattle.jz_tree.specs.declared.stmt.Lval.{Lval}
use Rattle.jz_tree.specs.declared.stmt.Lval.TheVariants as lval
use Rattle.jz_meaning.specs.declared.access.Kind.TheVariants as kind
use Rattle.jz_meaning.specs.Values.{key_of, ref_of, own_size}
use Rattle.jz_meaning.specs.Assignments.{left_sizes, whole_of}
use Rattle.jz_meaning.specs.Statements as source
use Rattle.jz_meaning.specs.Statements.{Condition, assign}
use Rattle.jz_operations.specs.declared.operation.Pinned.{Pinned}
use Rattle.jz_operations.specs.declared.operation.Arg.{Arg}
use Rattle.jz_operations.specs.declared.operation.Arg.TheVariants as arg
use Rattle.jz_operations.specs.declared.operation.Condition.TheVariants as condition
use Rattle.jz_operations.specs.declared.operation.Action.{Action}
use Rattle.jz_operations.specs.declared.operation.Action.TheVariants as action
use Rattle.jz_operations.specs.declared.operation.Operation.{Operation}
use Rattle.jz_encodable.specs.Encodable.{CanEncode}
use Rattle.jz_placing.specs.Variables.{Asked, always, asks}
use Rattle.jz_change.specs.declared.change.Number.{Number}
use Rattle.jz_change.specs.declared.change.Number.TheVariants.{Nth}
use Rattle.jz_change.specs.declared.change.Numbers.{Numbers}
use Rattle.jz_change.specs.declared.change.Numbers.TheVariants.{These}
use Rattle.jz_homes.specs.Homes.{Homes, in_register, in_flag}
use Rattle.jz_homes.specs.Operands.{Leaks, silent, told, count_of, IsArg, IsDest}
use Rattle.jz_row_operations.specs.Codes.{no_flag, plain, lasting}
use Rattle.jz_row_operations.specs.Rows.{IsWide, NotImm, NotBothImm, IsSumOp, alu_of, commutes, IsCarryOp, carry_alu, IsSign, IsShiftOp, shift_of, mask_of, cond_of, opposite}
use Rattle.jz_row_operations.specs.Table.{same_arg, is_imm, move_code, two_code, one_code, times_code, times_by_code, shift_code, shift_by_code, extend_code}

-- ---- numbers
-- what is shown of a part, so many numbers of the statement being leaked before it
abbrev pub numbers_from : Leaks → ℕ → List Number
numbers_from told i = Nth i ∷ []
numbers_from _ i = []

-- of the first operand and of the second one: where the first is the destination, where the second
-- is and they are swapped, and where the first is copied
abbrev pub both_shown : Bool → Bool → List Number → List Number → List Numbers
both_shown true s first second = These (first ++ second) ∷ []
both_shown false true first second = These (second ++ first) ∷ []
both_shown false false first second = These first ∷ These second ∷ []

-- by the destination, the operands and what those leak
abbrev pub two_shown : Bool → Arg → Arg → Arg → Leaks → Leaks → List Numbers
two_shown swaps d x y p q =
    both_shown (same_arg d x) (swaps && same_arg d y)
    (numbers_from p 0) (numbers_from q (count_of p))

abbrev pub one_shown : Arg → Arg → Leaks → List Numbers
one_shown d x p = both_shown (same_arg d x) false (numbers_from p 0) []

-- ---- assignments
-- The row of `d = e`, at the size z: its actions, and the numbers that each of them shows. The
-- source leaks the numbers of the operands from left to right, and then that of the destination.
module _ (home : Homes) (z : Size) (d : Lval) where
  pub data HasRow : Expr → List Action → List Numbers → Type 0 where
    -- `d = o`
    moves :
        {e : Expr} {x b : Arg} {p r : Leaks}
        → IsArg home z e x p → IsDest home z d b r
        → HasRow e (move_code z b x) (These (numbers_from r (count_of p) ++ numbers_from p 0) ∷ [])
    -- `d = a op o`, op one of `+ - & | ^`
    sums :
        {o : BinOp} {a c : Expr} {x y b : Arg} {p q r : Leaks} {acts : List Action} (at : Span)
        → IsSumOp o → IsArg home z a x p → IsArg home z c y q → IsDest home z d b r
        → NotBothImm x y → two_code (alu_of o) (commutes o) z b x y None ≡ Some acts
        → HasRow (expr.Bin o a c at) acts (two_shown (commutes o) b x y p q)
    -- `d = a + o + c`, `d = a - o - c`, c a flag
    carries :
        {o : BinOp} {a c : Expr} {x y b : Arg} {p q r : Leaks} {acts : List Action} (f : Var)
        (k : Pinned) (inner at : Span)
        → IsCarryOp o → IsArg home z a x p → IsArg home z c y q → IsDest home z d b r
        → NotBothImm x y → home (key_of (ref_of f)) ≡ Some (in_flag k.variable)
        → k.span ≡ (ref_of f).span
        → two_code (carry_alu o) (commutes o) z b x y (Some k) ≡ Some acts
        → HasRow (expr.Bin o (expr.Bin o a c inner) (expr.Var f) at) acts
        (two_shown (commutes o) b x y p q)
    -- `d = -a`, `d = !a`
    signs :
        {o : One} {e a : Expr} {x b : Arg} {p r : Leaks} {acts : List Action}
        → IsSign o e a → IsArg home z a x p → IsDest home z d b r → NotImm x
        → one_code o z b x ≡ Some acts → HasRow e acts (one_shown b x p)
    -- `r = a * o`, o no number
    times :
        {a c : Expr} {x y : Arg} {m : ℕ} {p q : Leaks} {acts : List Action} (at : Span)
        → IsWide z → IsArg home z a x p → IsArg home z c y q → IsDest home z d (arg.Var m) silent
        → NotImm y → times_code z m x y ≡ Some acts
        → HasRow (expr.Bin op.Mul a c at) acts (two_shown (not (is_imm x)) (arg.Var m) x y p q)
    -- `r = a * c`, c a number
    times_by :
        {a c : Expr} {x : Arg} {i : ℤ} {m : ℕ} {p : Leaks} (at : Span)
        → IsWide z → IsArg home z a x p → IsArg home z c (arg.Imm i) silent
        → IsDest home z d (arg.Var m) silent → NotImm x
        → HasRow (expr.Bin op.Mul a c at) (times_by_code z m x i) (These (numbers_from p 0) ∷ [])
    -- `d = a sh c`, c a number below the size
    shifts :
        {o : BinOp} {a : Expr} {x b : Arg} {p r : Leaks} {acts : List Action} (n : ℕ)
        (there at : Span)
        → IsShiftOp o → n < bits_of z → IsArg home z a x p → IsDest home z d b r → NotImm x
        → shift_code (shift_of o) z b x n ≡ Some acts
        → HasRow (expr.Bin o a (expr.Num (pos n) there) at) acts (one_shown b x p)
    -- `d = a sh (v & k)`, v a byte
    shifts_by :
        {o : BinOp} {a : Expr} {x b : Arg} {p r : Leaks} {acts : List Action} (v : Var)
        (k : Pinned) (there inner at : Span)
        → IsShiftOp o → home (key_of (ref_of v)) ≡ Some (in_register k.variable S8)
        → k.span ≡ (ref_of v).span → IsArg home z a x p → IsDest home z d b r
        → shift_by_code (shift_of o) z b x k ≡ Some acts
        → HasRow
        (expr.Bin o a (expr.Bin op.And (expr.Var v) (expr.Num (pos (mask_of z)) there) inner) at)
        acts (one_shown b x p)
    -- `r = (tu)o`, `r = (ts)o`, o smaller
    extends :
        {a : Expr} {y : Arg} {from : Size} {m : ℕ} {p : Leaks} (sign : Bool) (at : Span)
        → own_size a ≡ Some from → bits_of from < bits_of z → IsArg home from a y p → NotImm y
        → IsDest home z d (arg.Var m) silent
        → HasRow (expr.Cast z sign a at) (extend_code sign z from m y)
        (These (numbers_from p 0) ∷ [])
    -- `r = (tu)a`, a in a register of the same size or a larger one
    lowest :
        {a : Expr} {from : Size} {m n : ℕ} (at : Span)
        → own_size a ≡ Some from → bits_of z ≤ bits_of from → IsArg home from a (arg.Var n) silent
        → IsDest home z d (arg.Var m) silent
        → HasRow (expr.Cast z false a at) (move_code z (arg.Var m) (arg.Var n)) (These [] ∷ [])

-- ---- comparisons
-- `a cmp o`, a no number, or one that is denied: CMP at this span, the condition behind it, and what
-- the operands leak
pub data IsCompared (home : Homes) (at : Span) :
    Expr → Operation → Cond → Leaks → Leaks → Type 0 where
  compares :
      {o : BinOp} {c : Cond} {z : Size} {a b : Expr} {x y : Arg} {p q : Leaks} (here : Span)
      → cond_of o ≡ Some c → option_or (own_size a) (own_size b) ≡ Some z
      → IsArg home z a x p → IsArg home z b y q → NotImm x
      → CanEncode (action.Alu alu.Cmp z x y None)
      → IsCompared home at (expr.Bin o a b here) (plain at (action.Alu alu.Cmp z x y None)) c p q
  denies :
      {e : Expr} {compare : Operation} {c : Cond} {p q : Leaks} (here : Span)
      → IsCompared home at e compare c p q
      → IsCompared home at (expr.Not e here) compare (opposite c) p q

abbrev pub condition_shown : Leaks → Leaks → ℕ → Numbers
condition_shown p q i = These (numbers_from p i ++ numbers_from q (i + count_of p))

-- ---- statements
-- The operations of a statement, each at its span, with the numbers that each of them shows. Each
-- can be encoded: it has at most one operand in memory or in a cell, which as destination and first
-- operand counts once, and its numbers have fields.
pub data Lowers (home : Homes) : source.Operation → List Operation → List Numbers → Type 0 where
  -- `d = e` and `d op= e`, which is `d = d op e`
  sets :
      {d : Lval} {o : Option BinOp} {e w : Expr} {z : Size} {acts : List Action}
      {items : List Numbers} {at : Span}
      → whole_of (Some d) o e ≡ Some w → option_or (left_sizes (d ∷ [])) (own_size w) ≡ Some z
      → HasRow home z d w acts items → All CanEncode acts
      → Lowers home (assign (d ∷ []) o e None at) (lasting at no_flag acts) items
  -- `r = o if c`: the operand is read before the condition in the source, and behind it here
  sets_if :
      {x : Var} {e k : Expr} {y : Arg} {compare : Operation} {c : Cond} {m : ℕ} {p q r : Leaks}
      {at : Span} (z : Size)
      → IsWide z → (ref_of x).kind ≡ kind.Word z
      → home (key_of (ref_of x)) ≡ Some (in_register m z) → IsArg home z e y p → NotImm y
      → IsCompared home at k compare c q r → CanEncode (action.Cmov (condition.Cc c) z m y)
      → Lowers home (assign (lval.Var x ∷ []) None e (Some k) at)
      (compare ∷ plain at (action.Cmov (condition.Cc c) z m y) ∷ [])
      (condition_shown q r (count_of p) ∷ These (numbers_from p 0) ∷ [])

-- the test of an `if`, with the numbers that it shows
pub data LowersTest (home : Homes) (t : Condition) : Asked → Numbers → Type 0 where
  tests :
      {compare : Operation} {c : Cond} {p q : Leaks}
      → IsCompared home t.at t.cond compare c p q
      → LowersTest home t (asks (Some compare) (condition.Cc c)) (condition_shown p q 0)

-- that of a `while`, which may be `true`
pub data LowersLoopTest (home : Homes) (t : Condition) : Asked → Numbers → Type 0 where
  tests_each :
      {asked : Asked} {i : Numbers} → LowersTest home t asked i → LowersLoopTest home t asked i
  never_false :
      (here : Span) → t.cond ≡ expr.Bool true here
      → LowersLoopTest home t always (These [])
