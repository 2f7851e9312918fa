-- Bodies with calls, each of which has variables of its own: what stands in them is what unrolling
-- asks for, where the values of inline variables are those of the walk over a function with all that
-- it calls. What stands in a body, and which values are known, are apart, as a walk does not come to
-- an arm that is not taken, nor to a body without rounds.
use Rattle.std.specs.Prelude.{ℕ, ℤ, ◌≡◌, ◌⊎◌, Bool, true, false, is_none, List, [], ◌∷◌, ◌++◌, Option, Some, None, ⊤}
use Rattle.jz_tree.specs.declared.expr.BinOp.{BinOp}
use Rattle.jz_tree.specs.declared.expr.Expr.{Expr}
use Rattle.jz_tree.specs.declared.expr.Expr.TheVariants as expr
use Rattle.jz_tree.specs.declared.expr.Var.{Var}
use Rattle.jz_tree.specs.Span.{Span}
use Rattle.jz_tree.specs.declared.stmt.Lval.{Lval}
use Rattle.jz_tree.specs.declared.stmt.Lval.TheVariants as lval
use Rattle.jz_tree.specs.declared.program.Fun.{Fun}
use Rattle.jz_tree.specs.declared.program.Param.{Param}
use Rattle.jz_type_names.specs.Kinds.{is_inline}
use Rattle.jz_type_names.specs.Scopes.{variables_of}
use Rattle.jz_integers.specs.Integers.{KnownNumbers}
use Rattle.jz_integers.specs.declared.constant.Constant.TheVariants as constant
use Rattle.jz_meaning.specs.Assignments.{whole_of}
use Rattle.jz_meaning.specs.Trees.{done, op, quiet, choose, loop, each, call}
use Rattle.jz_meaning.specs.Statements.{Operation, assign, instruction, unset, meaningless, Counter, Call, Block, array_of}
use Rattle.jz_meaning.specs.Values.{Ref, ref_of}
use Rattle.jz_inline.specs.BodiesCalls.{is_array, AreApart, params_of, vars_of}
use Rattle.jz_limits.specs.Values.{is_int, inline_target, no_numbers, with_number, number_in, known_after}
use Rattle.jz_limits.specs.Walks.{Walk, arms, turns, counted_values, loop_walk, with_arguments, walk}
use Rattle.jz_unroll.specs.Values.{InlineNames, has_values, left_has_values, operation_has_values}
use Rattle.jz_unroll.specs.Unrolling.{HasValue, ConditionIs, IsInlineInt}
use Rattle.jz_unrolling_values.specs.InlineNames.{inline_names}
use Rattle.jz_unrolling_values.specs.Parts.{IsInlineIf}
use Rattle.jz_unrolling_laws.specs.AskedLaws.{of_text, is_text, is_access_text}

-- the first where it is so, else the second
abbrev pub ByTest : Bool → Type 0 → Type 0 → Type 0
ByTest true A B = A
ByTest false A B = B

-- ---- the inline variables of a function, by their names

abbrev pub Inlines : Type 0
Inlines = List ℕ → Bool

abbrev pub inlines_of : Fun → Inlines
inlines_of f n = inline_names (variables_of f) n 0

abbrev pub in_source : Inlines → InlineNames
in_source inline n c = inline n

-- ---- what stands in a body: variables of no copy

-- it is inline, and an integer, where a variable of its name is inline
abbrev pub IsNamedVar : Inlines → Var → Type 0
IsNamedVar i v =
    (of_text (ref_of v) ≡ true) × (is_inline (expr.Var v) ≡ i (ref_of v).name)
    × (is_int (ref_of v).kind ≡ i (ref_of v).name)

abbrev pub IsTextIf : Option Expr → Type 0
IsTextIf None = ⊤
IsTextIf (Some x) = is_text x ≡ true

abbrev pub AreTexts : List Expr → Type 0
AreTexts [] = ⊤
AreTexts (x ∷ xs) = (is_text x ≡ true) × AreTexts xs

abbrev pub IsNamedLeft : Inlines → Lval → Type 0
IsNamedLeft i (lval.Skip at) = ⊤
IsNamedLeft i (lval.Var v) = IsNamedVar i v
IsNamedLeft i (lval.Cell v x) = is_text x ≡ true
IsNamedLeft i (lval.Store a) = is_access_text a ≡ true

abbrev pub AreNamedLefts : Inlines → List Lval → Type 0
AreNamedLefts i [] = ⊤
AreNamedLefts i (d ∷ ds) = IsNamedLeft i d × AreNamedLefts i ds

abbrev pub IsNamedOp : Inlines → Operation → Type 0
IsNamedOp i (assign to o x c at) = AreNamedLefts i to × (is_text x ≡ true) × IsTextIf c
IsNamedOp i (instruction to n args at) = AreNamedLefts i to × AreTexts args
IsNamedOp i (unset vs) = ⊥
IsNamedOp i (meaningless at) = ⊥

pub record IsNamedCounter (i : Inlines) (f : Counter) : Type 0 where
  pub counter : IsInlineInt (in_source i) f.counter
  pub text : of_text (ref_of f.counter) ≡ true
  pub from : (is_text f.from ≡ true) × (is_inline f.from ≡ true)
  pub to : (is_text f.to ≡ true) × (is_inline f.to ≡ true)

-- i: of the caller; j: of the callee. An array is inline in neither
abbrev pub IsNamedArgument : Inlines → Inlines → Var → Expr → Type 0
IsNamedArgument i j p x =
    ByTest (is_array (ref_of p).kind)
    ((y : Ref) × (array_of x ≡ Some y) × (i y.name ≡ false) × (j (ref_of p).name ≡ false))
    (IsNamedVar j p × (is_none (ref_of p).cell ≡ true) × (is_text x ≡ true))

abbrev pub AreNamedArguments : Inlines → Inlines → List Param → List Expr → Type 0
AreNamedArguments i j [] [] = ⊤
AreNamedArguments i j (p ∷ ps) (x ∷ xs) =
    IsNamedArgument i j p.var x × AreNamedArguments i j ps xs
AreNamedArguments i j _ _ = ⊥

-- a result is not inline in the callee, nor what it goes to in the caller
abbrev pub IsPlainLeft : Inlines → Lval → Type 0
IsPlainLeft i (lval.Var v) = i (ref_of v).name ≡ false
IsPlainLeft i d = ⊤

abbrev pub AreNamedResults : Inlines → Inlines → List Lval → List Var → Type 0
AreNamedResults i j [] [] = ⊤
AreNamedResults i j (d ∷ ds) (v ∷ vs) =
    (IsNamedLeft i d × IsPlainLeft i d × IsNamedVar j v × (j (ref_of v).name ≡ false))
    × AreNamedResults i j ds vs
AreNamedResults i j _ _ = ⊥

pub record IsNamedCall (i j : Inlines) (q : Call) : Type 0 where
  -- the parameters and variables of the callee have different names
  pub apart : AreApart (params_of q.callee.params ++ vars_of q.callee.vars)
  pub arguments : AreNamedArguments i j q.callee.params q.args
  pub results : AreNamedResults i j q.to q.callee.result

abbrev pub IsNamed : Inlines → Block → Type 0
IsNamed i done = ⊤
IsNamed i (op o r) = IsNamedOp i o × IsNamed i r
IsNamed i (quiet o r) = ⊥
IsNamed i (choose p a b r) =
    (is_text p.cond ≡ true) × IsNamed i a × IsNamed i b × IsNamed i r
IsNamed i (loop h q p b r) =
    (is_text p.cond ≡ true) × IsNamed i q × IsNamed i b × IsNamed i r
IsNamed i (each f b r) = IsNamedCounter i f × IsNamed i b × IsNamed i r
IsNamed i (call q b r) =
    IsNamedCall i (inlines_of q.callee) q × IsNamed (inlines_of q.callee) b × IsNamed i r

-- ---- what a body sets

-- no inline variable, but for counters of loops
abbrev pub IsStillOp : Operation → Type 0
IsStillOp (assign to o x c at) = inline_target to ≡ None
IsStillOp o = ⊤

-- callees have variables of their own
abbrev pub IsStill : Block → Type 0
IsStill done = ⊤
IsStill (op o r) = IsStillOp o × IsStill r
IsStill (quiet o r) = ⊥
IsStill (choose p a b r) = IsStill a × IsStill b × IsStill r
IsStill (loop h q p b r) = IsStill q × IsStill b × IsStill r
IsStill (each f b r) = IsStill b × IsStill r
IsStill (call q b r) = IsStill r

-- ---- operations, where this is known

pub data FitsOp (i : Inlines) (e : KnownNumbers) : Operation → Type 0 where
  -- it stays, and each inline expression in it has a value
  stays_so :
      {o : Operation}
      → IsStillOp o → operation_has_values (in_source i) e o ≡ true → FitsOp i e o
  -- it sets one inline variable to a number, where its condition, if it has one, is this
  sets_one :
      {v : Var} {o : Option BinOp} {x y : Expr} {c : Option Expr} {at : Span} {n : ℤ} (b : Bool)
      → IsInlineInt (in_source i) v → is_inline x ≡ true → IsInlineIf c
      → whole_of (Some (lval.Var v)) o x ≡ Some y → HasValue e y (constant.Int n)
      → ConditionIs e v c b
      → FitsOp i e (assign (lval.Var v ∷ []) o x c at)

-- ---- tests

abbrev pub IsAsked : Inlines → Expr → KnownNumbers → Type 0
IsAsked i c e = (is_inline c ≡ false) × (has_values (in_source i) e c ≡ true)

-- a constant one takes one of them, and what is true where it does
abbrev pub IsTaken : Expr → KnownNumbers → Type 0 → Type 0 → Type 0
IsTaken c e A B =
    (is_inline c ≡ true) × ((z : Bool) × HasValue e c (constant.Bool z) × ByTest z A B)

-- ---- calls, where this is known in the caller

-- of an inline parameter a number
abbrev pub FitsArgument : Inlines → KnownNumbers → Var → Expr → Type 0
FitsArgument i e p x =
    ByTest (is_array (ref_of p).kind) ⊤
    (ByTest (is_int (ref_of p).kind)
    ((is_inline x ≡ true) × ((n : ℤ) × HasValue e x (constant.Int n)))
    (has_values (in_source i) e x ≡ true))

abbrev pub FitArguments : Inlines → KnownNumbers → List Param → List Expr → Type 0
FitArguments i e (p ∷ ps) (x ∷ xs) = FitsArgument i e p.var x × FitArguments i e ps xs
FitArguments i e _ _ = ⊤

-- a result that is no array and is not dropped
abbrev pub IsGiven : Inlines → KnownNumbers → Lval → Var → Type 0
IsGiven i e d v =
    ByTest (is_array (ref_of v).kind) ⊤ (left_has_values (in_source i) e d ≡ true)

abbrev pub FitsResult : Inlines → KnownNumbers → Lval → Var → Type 0
FitsResult i e (lval.Skip at) v = ⊤
FitsResult i e d v = IsGiven i e d v

abbrev pub FitResults : Inlines → KnownNumbers → List Lval → List Var → Type 0
FitResults i e (d ∷ ds) (v ∷ vs) = FitsResult i e d v × FitResults i e ds vs
FitResults i e _ _ = ⊤

-- ---- rounds

-- F: what is asked of the body; W: what it makes of what is known
abbrev pub FitsRounds :
    Var → (KnownNumbers → Type 0) → (KnownNumbers → Walk) → List ℤ → KnownNumbers → Type 0
FitsRounds v F W [] e = ⊤
FitsRounds v F W (z ∷ zs) e =
    F (with_number e v (Some z)) × FitsRounds v F W zs (W (with_number e v (Some z))).known

abbrev pub AreBounds : Counter → KnownNumbers → Type 0
AreBounds f e =
    ((n : ℤ) × HasValue e f.from (constant.Int n)) × ((n : ℤ) × HasValue e f.to (constant.Int n))

-- ---- bodies, where this is known

-- each part is asked where the walk comes to it, with what is known there
abbrev pub FitsCalled : Inlines → Block → KnownNumbers → Type 0
FitsCalled i done e = ⊤
FitsCalled i (op o r) e = FitsOp i e o × FitsCalled i r (known_after e o)
FitsCalled i (quiet o r) e = ⊥
FitsCalled i (choose p a b r) e =
    (IsTaken p.cond e (FitsCalled i a e) (FitsCalled i b e)
    ⊎ (IsAsked i p.cond e × IsStill a × IsStill b × FitsCalled i a e
    × FitsCalled i b (walk a e).known))
    × FitsCalled i r (arms p.cond (walk a) (walk b) e).known
-- neither the prologue nor the body sets an inline variable
FitsCalled i (loop h q p b r) e =
    IsStill q × IsStill b × FitsCalled i q e
    × (IsTaken p.cond (walk q e).known (FitsCalled i b (walk q e).known) ⊤
    ⊎ (IsAsked i p.cond (walk q e).known × FitsCalled i b (walk q e).known))
    × FitsCalled i r (turns p.cond (walk q) (walk b) e).known
FitsCalled i (each f b r) e =
    AreBounds f e
    × FitsRounds f.counter (FitsCalled i b) (walk b)
    (counted_values f.down (number_in e f.from) (number_in e f.to)) e
    × FitsCalled i r (loop_walk f (walk b) e).known
-- the callee begins with its inline parameters
FitsCalled i (call q b r) e =
    FitArguments i e q.callee.params q.args
    × FitResults i e q.to q.callee.result
    × FitsCalled (inlines_of q.callee) b (with_arguments e q.callee.params q.args no_numbers)
    × FitsCalled i r e
