-- What is known while loops are unrolled: the values of inline variables. What sets an inline
-- variable alone vanishes; a constant test leaves an arm or a prologue; a `for` becomes its rounds.
use Rattle.std.specs.Prelude.{ℕ, ℤ, ◌≡◌, ◌==◌, ◌&&◌, Bool, true, false, not, is_none, is_some, if◌then◌else◌, List, [], ◌∷◌, filter, Option, Some, None}
use Rattle.std.specs.Str.{bytes_eq}
use Rattle.jz_tree.specs.Span.{Span}
use Rattle.jz_tree.specs.declared.expr.BinOp.{BinOp}
use Rattle.jz_tree.specs.declared.expr.Expr.{Expr}
use Rattle.jz_tree.specs.declared.expr.Expr.TheVariants as expr
use Rattle.jz_tree.specs.declared.expr.Var.{Var}
use Rattle.jz_tree.specs.declared.stmt.Lval.TheVariants as lval
use Rattle.jz_type_names.specs.Kinds.{is_inline}
use Rattle.jz_type_names.specs.Parts.{span_of}
use Rattle.jz_integers.specs.Integers.{KnownNumbers, inline_value}
use Rattle.jz_integers.specs.declared.constant.Constant.{Constant}
use Rattle.jz_integers.specs.declared.constant.Constant.TheVariants as constant
use Rattle.jz_meaning.specs.Assignments.{whole_of}
use Rattle.jz_meaning.specs.Statements.{Operation, assign, unset, Condition, Counter, values_between}
use Rattle.jz_meaning.specs.Values.{ref_of}
use Rattle.jz_change.specs.declared.change.Numbers.{Numbers}
use Rattle.jz_change.specs.declared.change.Numbers.TheVariants.{Same}
use Rattle.jz_pass.specs.Unrolling.{Knowing}
use Rattle.jz_unroll.specs.Values.{is_int, has_no_cell, with_values, operation_with_values, InlineNames, is_inline_var, has_values, operation_has_values}

-- ---- numbers of inline variables

abbrev pub with_number : KnownNumbers → Var → Option ℤ → KnownNumbers
with_number e v i n c =
    if bytes_eq (ref_of v).name n && (ref_of v).copy == c then i else e n c

abbrev pub number_of : KnownNumbers → Var → Option ℤ
number_of e v = e (ref_of v).name (ref_of v).copy

abbrev pub all_unknown : KnownNumbers → List Var → KnownNumbers
all_unknown e [] = e
all_unknown e (v ∷ vs) = all_unknown (with_number e v None) vs

-- an expression has this value, whatever the state is
abbrev pub HasValue : KnownNumbers → Expr → Constant → Type 0
HasValue e x c = (has_no_cell x ≡ true) × (inline_value e x ≡ Some c)

-- an absent condition is true; behind another one the old value is read, whatever its answer
abbrev pub ConditionIs : KnownNumbers → Var → Option Expr → Bool → Type 0
ConditionIs e v None b = b ≡ true
ConditionIs e v (Some c) b = HasValue e c (constant.Bool b) × (is_some (number_of e v) ≡ true)

-- ---- parts

module _ (names : InlineNames) where
  -- an inline variable as a whole
  pub record IsInlineInt (v : Var) : Type 0 where
    pub named : is_inline_var names v ≡ true
    pub whole : is_none (ref_of v).cell ≡ true
    pub int : is_int (ref_of v).kind ≡ true

  pub data UnrollsOp :
      Operation → KnownNumbers → List Operation → List Numbers → KnownNumbers → Type 0 where
    stays :
        {o : Operation} {e : KnownNumbers}
        → operation_has_values names e o ≡ true
        → UnrollsOp o e (operation_with_values e o ∷ []) (Same ∷ []) e
    -- it vanishes; where its condition is false the old value stays
    vanishes :
        {v : Var} {o : Option BinOp} {x y : Expr} {c : Option Expr} {at : Span}
        {e : KnownNumbers} {i : ℤ} (b : Bool)
        → IsInlineInt v → whole_of (Some (lval.Var v)) o x ≡ Some y
        → HasValue e y (constant.Int i) → ConditionIs e v c b
        → UnrollsOp (assign (lval.Var v ∷ []) o x c at) e [] []
        (if b then with_number e v (Some i) else e)

  abbrev pub marked_vars : List Var → List Var
  marked_vars = filter (λ v. not (is_inline_var names v))

  pub data UnrollsMark : Operation → KnownNumbers → Operation → KnownNumbers → Type 0 where
    marked :
        {vs : List Var} {e : KnownNumbers}
        → UnrollsMark (unset vs) e (unset (marked_vars vs)) (all_unknown e vs)

  pub data UnrollsTest :
      Condition → KnownNumbers → List Operation → List Numbers → Condition → Numbers → Type 0
    where
      tested :
          {p : Condition} {e : KnownNumbers}
          → is_inline p.cond ≡ false → has_values names e p.cond ≡ true
          → UnrollsTest p e [] [] (record { cond = with_values e p.cond; at = p.at }) Same

  pub data UnrollsLoopTest :
      Condition → KnownNumbers → List Operation → List Numbers → Condition → Numbers → Type 0
    where
      loops :
          {p : Condition} {e : KnownNumbers}
          → is_inline p.cond ≡ false → has_values names e p.cond ≡ true
          → UnrollsLoopTest p e [] [] (record { cond = with_values e p.cond; at = p.at }) Same
      -- one that is always true stays
      always :
          {p : Condition} {e : KnownNumbers}
          → is_inline p.cond ≡ true → HasValue e p.cond (constant.Bool true)
          → UnrollsLoopTest p e [] []
          (record { cond = expr.Bool true (span_of p.cond); at = p.at }) Same

  -- both bounds are read once
  pub record HasValues (f : Counter) (e : KnownNumbers) (is : List ℤ) : Type 0 where
    pub counter : IsInlineInt f.counter
    pub first : ℤ
    pub bound : ℤ
    pub from : HasValue e f.from (constant.Int first)
    pub to : HasValue e f.to (constant.Int bound)
    pub values : is ≡ values_between f.down first bound

abbrev pub IsConstant : Condition → KnownNumbers → Bool → Type 0
IsConstant p e z = (is_inline p.cond ≡ true) × HasValue e p.cond (constant.Bool z)

abbrev pub KnowsLess : KnownNumbers → KnownNumbers → Type 0
KnowsLess e0 e = (n : List ℕ) (c : ℕ) (i : ℤ) → e0 n c ≡ Some i → e n c ≡ Some i

abbrev pub unrolling :
    InlineNames → Knowing Operation Condition Counter KnownNumbers Operation Condition
unrolling names = record {
  Op = UnrollsOp names;
  Quiet = UnrollsMark names;
  Test = UnrollsTest names;
  LoopTest = UnrollsLoopTest names;
  Constant = IsConstant;
  Values = HasValues names;
  Less = KnowsLess;
  set = λ f i e. with_number e f.counter (Some i);
  restore = λ f e e1. with_number e1 f.counter (number_of e f.counter);
}
