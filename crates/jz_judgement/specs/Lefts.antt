-- Left sides and their values.
use Rattle.std.specs.Prelude.{◌≡◌, ◌⊎◌, true, false, List, [], ◌∷◌, Option, Some, None}
use Rattle.jz_tree.specs.Span.{Span}
use Rattle.jz_tree.specs.Size.{Size}
use Rattle.jz_tree.specs.declared.expr.BinOp.{BinOp}
use Rattle.jz_tree.specs.declared.expr.Expr.{Expr}
use Rattle.jz_tree.specs.declared.expr.Access.{Access}
use Rattle.jz_tree.specs.declared.expr.Var.{Var}
use Rattle.jz_tree.specs.declared.expr.Expr.TheViews.{out-Access}
use Rattle.jz_tree.specs.declared.stmt.Lval.{Lval}
use Rattle.jz_tree.specs.declared.stmt.Lval.TheVariants as lval
use Rattle.jz_type_names.specs.declared.kinds.Kind.{Kind}
use Rattle.jz_type_names.specs.declared.kinds.Kind.TheVariants as kind
use Rattle.jz_type_names.specs.Kinds.{Known, known_of, is_inline_int, is_array}
use Rattle.jz_type_sizes.specs.Values.{is_product}
use Rattle.jz_judgement.specs.Places.{Place, integer, truth, word, index, unsized, TakesNumber, IsWordOf, IsArrayOf}
use Rattle.jz_judgement.specs.HasType.{Term, value, result, Says, HasType}

-- ---- declarations
abbrev pub BoolKind : Kind → Type 0
BoolKind kind.Truth = Unit {0}
BoolKind _ = ⊥

abbrev pub IsBool : Known → Type 0
IsBool None = ⊥
IsBool (Some d) = BoolKind d.kind

abbrev pub NumberKind : Kind → Type 0
NumberKind kind.Int = Unit {0}
NumberKind _ = ⊥

abbrev pub IsNumber : Known → Type 0
IsNumber None = ⊥
IsNumber (Some d) = NumberKind d.kind

-- ---- which values a left side takes
-- the left side says the type of its value
pub data Wants : Lval → Place → Type 0 where
  number : {v : Var} → is_inline_int (known_of v) ≡ true → Wants (lval.Var v) integer
  bool : {v : Var} → IsBool (known_of v) → Wants (lval.Var v) truth
  variable : {v : Var} {z : Size} → IsWordOf z (known_of v) → Wants (lval.Var v) (word z)
  cell : {v : Var} {i : Expr} {z : Size} → IsArrayOf z (known_of v) → HasType (value i) index
      → Wants (lval.Cell v i) (word z)
  access : {a : Access} {z : Size} → a.size ≡ Some z → HasType (value (out-Access a).at) index
      → Wants (lval.Store a) (word z)

-- the value says its type itself: of `_`; of an array as a whole and an integer that is not
-- inline, of which other rules speak; of
-- an access without a size
pub data Leaves : Lval → Place → Type 0 where
  nothing : {at : Span} {p : Place} → Leaves (lval.Skip at) p
  array : {v : Var} {p : Place} → is_array (known_of v) ≡ true → Leaves (lval.Var v) p
  number : {v : Var} {p : Place} → IsNumber (known_of v) → is_inline_int (known_of v) ≡ false
      → TakesNumber p → Leaves (lval.Var v) p
  access : {a : Access} {z : Size} → a.size ≡ None → HasType (value (out-Access a).at) index
      → Leaves (lval.Store a) (word z)

-- a value of that type may go there
abbrev pub Holds : Place → Lval → Type 0
Holds p d = Wants d p ⊎ Leaves d p

-- the type that a value has by itself
pub data Own : Term → Place → Type 0 where
  bool : {x : Term} → Own x truth
  sized : {x : Term} {z : Size} → Says x z → Own x (word z)
  number : {x : Term} → Own x unsized

-- one left side and its value
pub data Takes : Lval → Term → Type 0 where
  wanted : {d : Lval} {x : Term} (p : Place) → Wants d p → HasType x p → Takes d x
  left : {d : Lval} {x : Term} (p : Place) → Leaves d p → Own x p → HasType x p → Takes d x

-- ---- a left side whose value has its type elsewhere
-- what stands within it is well typed
pub data IsSound : Lval → Type 0 where
  nothing : {at : Span} → IsSound (lval.Skip at)
  variable : {v : Var} → IsSound (lval.Var v)
  cell : {v : Var} {i : Expr} (z : Size) → IsArrayOf z (known_of v) → HasType (value i) index
      → IsSound (lval.Cell v i)
  access : {a : Access} → HasType (value (out-Access a).at) index → IsSound (lval.Store a)

pub data IsFlag : Lval → Type 0 where
  nothing : {at : Span} → IsFlag (lval.Skip at)
  variable : {v : Var} → IsBool (known_of v) → IsFlag (lval.Var v)

-- ---- several left sides of one value
-- both words of a product have the size that one of them says, or the value, or none
pub data IsProduct : Lval → Lval → Term → Type 0 where
  words : {h l : Lval} {x : Term} (z : Size) → Wants h (word z) ⊎ (Wants l (word z) ⊎ Says x z)
      → Holds (word z) h → Holds (word z) l → HasType x (word z) → IsProduct h l x
  numbers : {h l : Lval} {x : Term} → Leaves h unsized → Leaves l unsized → HasType x unsized
      → IsProduct h l x

-- `e`, or with an operation `d op e`
abbrev pub value_term : Option BinOp → Lval → Expr → Term
value_term None d e = value e
value_term (Some o) d e = result o d e

-- one; a product; or a flag and one
pub data Values : List Lval → Option BinOp → Expr → Type 0 where
  nothing : {o : Option BinOp} {e : Expr} → Values [] o e
  one : {d : Lval} {o : Option BinOp} {e : Expr} → Takes d (value_term o d e) → Values (d ∷ []) o e
  product : {h l : Lval} {o : Option BinOp} {e : Expr} → is_product o e ≡ true
      → IsProduct h l (value_term o l e) → Values (h ∷ l ∷ []) o e
  flagged : {c d : Lval} {o : Option BinOp} {e : Expr} → is_product o e ≡ false → IsFlag c
      → Takes d (value_term o d e) → Values (c ∷ d ∷ []) o e
