-- What typing gives of inline variables in the parts of a body: a function's inline variables by
-- their names, what is a number or a truth when the text is compiled, and which operations set one.
use Rattle.std.specs.Prelude.{ℕ, ℤ, ◌≡◌, ◌⊎◌, Bool, true, false, List, [], ◌∷◌, All, Option, Some, None, ⊤}
use Rattle.jz_tree.specs.Span.{Span}
use Rattle.jz_tree.specs.declared.expr.BinOp.{BinOp}
use Rattle.jz_tree.specs.declared.expr.Expr.{Expr}
use Rattle.jz_tree.specs.declared.expr.Var.{Var}
use Rattle.jz_tree.specs.declared.stmt.Lval.{Lval}
use Rattle.jz_tree.specs.declared.stmt.Lval.TheVariants as lval
use Rattle.jz_tree.specs.declared.program.Fun.{Fun}
use Rattle.jz_tree.specs.declared.program.Param.{Param}
use Rattle.jz_type_names.specs.Kinds.{known_of, is_inline_int, is_inline}
use Rattle.jz_integers.specs.Integers.{KnownNumbers, inline_value}
use Rattle.jz_integers.specs.declared.constant.Constant.{Constant}
use Rattle.jz_integers.specs.declared.constant.Constant.TheVariants as constant
use Rattle.jz_meaning.specs.Assignments.{last_left, whole_of}
use Rattle.jz_meaning.specs.Statements.{Operation, assign, instruction, Counter}
use Rattle.jz_meaning.specs.Values.{ref_of}
use Rattle.jz_bodies.specs.Calls.{is_array}
use Rattle.jz_limits.specs.Values.{is_int}
use Rattle.jz_unroll.specs.Values.{InlineNames, is_inline_var, is_split}
use Rattle.jz_unroll.specs.Unrolling.{IsInlineInt}
use Rattle.jz_unrolling_laws.specs.AskedLaws.{has_named, access_named}
use Rattle.jz_unrolling_laws.specs.CalledBodies.{inlines_of, in_source}

-- ---- names

-- the inline variables of a function, in whatever copy
abbrev pub inline_in : Fun → InlineNames
inline_in f = in_source (inlines_of f)

-- a set of names, as a test
abbrev pub NameSet : Type 0
NameSet = List ℕ → Bool

-- of the inline variables the first has no other names than the second
abbrev pub Within : InlineNames → NameSet → NameSet → Type 0
Within names s t = (n : List ℕ) → names n 0 ≡ true → s n ≡ true → t n ≡ true

-- no other names but that of this variable
abbrev pub WithinAnd : InlineNames → NameSet → NameSet → Var → Type 0
WithinAnd names s t v =
    (n : List ℕ) → names n 0 ≡ true → s n ≡ true → (t n ≡ true) ⊎ ((ref_of v).name ≡ n)

-- ---- expressions

-- whatever numbers are known, its value is a number, if it has one
abbrev pub IsNumeric : Expr → Type 0
IsNumeric x =
    (e : KnownNumbers) (c : Constant) → inline_value e x ≡ Some c → (i : ℤ) × (c ≡ constant.Int i)

-- it is a truth
abbrev pub IsLogical : Expr → Type 0
IsLogical x =
    (e : KnownNumbers) (c : Constant)
    → inline_value e x ≡ Some c → (b : Bool) × (c ≡ constant.Bool b)

module _ (names : InlineNames) where
  -- an integer that is known when the text is compiled
  pub record IsInlineNumber (x : Expr) : Type 0 where
    pub inline : is_inline x ≡ true
    pub named : has_named names x ≡ true
    pub numeric : IsNumeric x

  -- a condition that is
  pub record IsInlineTruth (x : Expr) : Type 0 where
    pub inline : is_inline x ≡ true
    pub named : has_named names x ≡ true
    pub logical : IsLogical x

  abbrev pub IsInlineTest : Option Expr → Type 0
  IsInlineTest None = ⊤
  IsInlineTest (Some c) = IsInlineTruth c

  abbrev pub IsNamedIf : Option Expr → Type 0
  IsNamedIf None = ⊤
  IsNamedIf (Some c) = has_named names c ≡ true

  -- ---- variables

  -- an inline variable of the text
  pub record IsInlineVar (v : Var) : Type 0 where
    pub number : IsInlineInt names v
    pub copy : (ref_of v).copy ≡ 0

  -- a variable that is not inline, by its name, by its declaration and for a run
  pub record IsPlainVar (v : Var) : Type 0 where
    pub named : is_inline_var names v ≡ false
    pub declared : is_inline_int (known_of v) ≡ false
    pub kind : is_int (ref_of v).kind ≡ false

  -- a left side that is no inline variable
  abbrev pub IsOtherLeft : Lval → Type 0
  IsOtherLeft (lval.Skip at) = ⊤
  IsOtherLeft (lval.Var v) = IsPlainVar v
  IsOtherLeft (lval.Cell v i) = (is_inline_var names v ≡ false) × (has_named names i ≡ true)
  IsOtherLeft (lval.Store a) = access_named names a ≡ true

  -- ---- operations

  -- with a condition the old value is read, so it is set before
  abbrev pub HasOld : NameSet → Var → Option Expr → Type 0
  HasOld set v None = ⊤
  HasOld set v (Some c) = set (ref_of v).name ≡ true

  -- inside: of a `while` or an `if` that is not inline, where no inline variable is set. Where
  -- these names are set before it, no others are set behind it but that of the inline variable that
  -- it sets.
  pub data SetsInline (inside : Bool) (before : NameSet) : Operation → NameSet → Type 0 where
    sets_inline :
        {v : Var} {o : Option BinOp} {x y : Expr} {c : Option Expr} {at : Span} {behind : NameSet}
        → inside ≡ false → IsInlineVar v → is_inline x ≡ true
        → whole_of (Some (lval.Var v)) o x ≡ Some y → IsInlineNumber y → IsInlineTest c
        → HasOld before v c → WithinAnd names behind before v
        → SetsInline inside before (assign (lval.Var v ∷ []) o x c at) behind
    assigns :
        {to : List Lval} {o : Option BinOp} {x : Expr} {c : Option Expr} {at : Span}
        {behind : NameSet}
        → All IsOtherLeft to → has_named names x ≡ true → IsNamedIf c
        → is_split to (whole_of (last_left to) o x) ≡ true → Within names behind before
        → SetsInline inside before (assign to o x c at) behind
    instructs :
        {to : List Lval} {n : List ℕ} {args : List Expr} {at : Span} {behind : NameSet}
        → All IsOtherLeft to → All (λ x. has_named names x ≡ true) args → Within names behind before
        → SetsInline inside before (instruction to n args at) behind

  -- a counter is inline, and so are its bounds
  pub record CountsInline (f : Counter) : Type 0 where
    pub counter : IsInlineVar f.counter
    pub from : IsInlineNumber f.from
    pub to : IsInlineNumber f.to

-- ---- calls

-- of a caller and of a callee
module _ (names inner : InlineNames) where
  -- an array is passed as such; an inline parameter gets an inline number
  pub data PassesInline (p : Param) (x : Expr) : Type 0 where
    passes_array : is_array (ref_of p.var).kind ≡ true → PassesInline p x
    passes_number :
        is_array (ref_of p.var).kind ≡ false → IsInlineVar inner p.var → IsInlineNumber names x
        → PassesInline p x
    passes_value :
        is_array (ref_of p.var).kind ≡ false → IsPlainVar inner p.var → has_named names x ≡ true
        → PassesInline p x

  -- no result is inline, and none goes to an inline variable
  pub data GivesInline (d : Lval) (v : Var) : Type 0 where
    gives_array : is_array (ref_of v).kind ≡ true → GivesInline d v
    gives_value :
        is_array (ref_of v).kind ≡ false → IsPlainVar inner v → IsOtherLeft names d
        → GivesInline d v

  -- as many arguments as parameters, as many left sides as results
  abbrev pub PassAll : List Param → List Expr → Type 0
  PassAll [] [] = ⊤
  PassAll (p ∷ ps) (x ∷ xs) = PassesInline p x × PassAll ps xs
  PassAll _ _ = ⊥

  abbrev pub GiveAll : List Lval → List Var → Type 0
  GiveAll [] [] = ⊤
  GiveAll (d ∷ ds) (v ∷ vs) = GivesInline d v × GiveAll ds vs
  GiveAll _ _ = ⊥
