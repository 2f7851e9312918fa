-- Which type an expression has in its place: a judgement by rules.
use Rattle.std.specs.Prelude.{◌≡◌, ◌⊎◌, ℤ, Bool, true, false, ◌&&◌, Some, None}
use Rattle.jz_tree.specs.Span.{Span}
use Rattle.jz_tree.specs.Size.{Size}
use Rattle.jz_tree.specs.declared.expr.BinOp.{BinOp}
use Rattle.jz_tree.specs.declared.expr.Expr.{Expr}
use Rattle.jz_tree.specs.declared.expr.Ty.{Ty}
use Rattle.jz_tree.specs.declared.expr.Access.{Access}
use Rattle.jz_tree.specs.declared.expr.Decl.{Decl}
use Rattle.jz_tree.specs.declared.expr.Var.{Var}
use Rattle.jz_tree.specs.declared.expr.Expr.TheOpen.{Expr-F, Access-F}
use Rattle.jz_tree.specs.declared.expr.Expr.TheViews.{out-Expr, out-Access}
use Rattle.jz_tree.specs.declared.stmt.Lval.{Lval}
use Rattle.jz_tree.specs.declared.stmt.Lval.TheVariants as lval
use Rattle.jz_type_names.specs.Kinds.{known_of, is_inline_int, is_array, is_inline}
use Rattle.jz_type_sizes.specs.declared.operators.Group.TheVariants as group
use Rattle.jz_type_sizes.specs.Operators.{group_of, is_of_words}
use Rattle.jz_judgement.specs.Places.{Place, truth, integer, word, stated, index, TakesNumber, TakesWord, TakesCarry, count_place, Goes, IsWordOf, IsArrayOf, IsSum}

abbrev pub Layer : Type 0
Layer = Expr-F Expr Ty Access Decl Var

abbrev pub AccessLayer : Type 0
AccessLayer = Access-F Expr Ty Access Decl Var

-- what has a type: an expression; a left side, which `d op= e` reads; and what `d op= e` computes
pub data Term : Type 0 where
  value : Expr → Term
  left : Lval → Term
  result : BinOp → Lval → Expr → Term

-- ---- sizes
-- the term itself says that it is a word of that size
mutual
  pub data Says : Term → Size → Type 0 where
    expression : {e : Expr} {z : Size} → LayerSays (out-Expr e) z → Says (value e) z
    updated : {o : BinOp} {d : Lval} {e : Expr} {z : Size} → OperandSays o (left d) (value e) z
        → Says (result o d e) z
    set_variable : {v : Var} {z : Size} → IsWordOf z (known_of v) → Says (left (lval.Var v)) z
    set_cell : {v : Var} {i : Expr} {z : Size} → IsArrayOf z (known_of v)
        → Says (left (lval.Cell v i)) z
    set_access : {a : Access} {z : Size} → a.size ≡ Some z → Says (left (lval.Store a)) z

  pub data LayerSays : Layer → Size → Type 0 where
    variable : {v : Var} {z : Size} → IsWordOf z (known_of v) → LayerSays (Expr-F.Var v) z
    cell : {v : Var} {i : Expr} {z : Size} → IsArrayOf z (known_of v)
        → LayerSays (Expr-F.Cell v i) z
    load : {a : Access} {z : Size} → (out-Access a).size ≡ Some z → LayerSays (Expr-F.Load a) z
    negated : {a : Expr} {at : Span} {z : Size} → Says (value a) z → LayerSays (Expr-F.Neg a at) z
    inverted : {a : Expr} {at : Span} {z : Size} → Says (value a) z → LayerSays (Expr-F.Not a at) z
    cast : {z : Size} {s : Bool} {a : Expr} {at : Span} → LayerSays (Expr-F.Cast z s a at) z
    operation : {o : BinOp} {a b : Expr} {at : Span} {z : Size}
        → OperandSays o (value a) (value b) z → LayerSays (Expr-F.Bin o a b at) z

  -- how far a shift goes says nothing
  pub data OperandSays : BinOp → Term → Term → Size → Type 0 where
    first : {o : BinOp} {a b : Term} {z : Size} → group_of o ≡ group.Arith → Says a z
        → OperandSays o a b z
    second : {o : BinOp} {a b : Term} {z : Size} → group_of o ≡ group.Arith → Says b z
        → OperandSays o a b z
    shifted : {o : BinOp} {a b : Term} {z : Size} → group_of o ≡ group.Shift → Says a z
        → OperandSays o a b z

-- ---- what is known when the text is compiled
abbrev pub left_known : Lval → Bool
left_known (lval.Var v) = is_inline_int (known_of v)
left_known _ = false

abbrev pub is_known : Term → Bool
is_known (value e) = is_inline e
is_known (left d) = left_known d
is_known (result o d e) = is_inline e && left_known d

-- an operation that only words have is not done where both operands are known when the text is
-- compiled
abbrev pub Admits : BinOp → Term → Term → Type 0
Admits o a b = (is_of_words o && (is_known b && is_known a)) ≡ false

-- ---- types
mutual
  pub data HasType : Term → Place → Type 0 where
    expression : {e : Expr} {p : Place} → Types (out-Expr e) p → HasType (value e) p
    updated : {o : BinOp} {d : Lval} {e : Expr} {p : Place} → Operates o (left d) (value e) p
        → HasType (result o d e) p
    -- nothing is asked of `_`, nor of an array as a whole, of which another rule speaks
    nothing : {at : Span} {p : Place} → HasType (left (lval.Skip at)) p
    array : {v : Var} {p : Place} → is_array (known_of v) ≡ true → HasType (left (lval.Var v)) p
    set_variable : {v : Var} {p : Place} → Goes (known_of v) p → HasType (left (lval.Var v)) p
    set_cell : {v : Var} {i : Expr} {p : Place} (z : Size) → IsArrayOf z (known_of v)
        → TakesWord z p → HasType (value i) index → HasType (left (lval.Cell v i)) p
    set_access : {a : Access} {p : Place} → Accesses (out-Access a) p
        → HasType (left (lval.Store a)) p

  -- an expression, by its outermost form
  pub data Types : Layer → Place → Type 0 where
    number : {n : ℤ} {at : Span} {p : Place} → TakesNumber p → Types (Expr-F.Num n at) p
    bool : {b : Bool} {at : Span} → Types (Expr-F.Expr::Bool b at) truth
    variable : {v : Var} {p : Place} → Goes (known_of v) p → Types (Expr-F.Var v) p
    cell : {v : Var} {i : Expr} {p : Place} (z : Size) → IsArrayOf z (known_of v) → TakesWord z p
        → HasType (value i) index → Types (Expr-F.Cell v i) p
    load : {a : Access} {p : Place} → Accesses (out-Access a) p → Types (Expr-F.Load a) p
    negated : {a : Expr} {at : Span} {p : Place} → TakesNumber p → HasType (value a) p
        → Types (Expr-F.Neg a at) p
    inverted : {a : Expr} {at : Span} {p : Place} → HasType (value a) p → Types (Expr-F.Not a at) p
    -- what is cast is a word that says its size, and so does each access in it
    cast : {z : Size} {s : Bool} {a : Expr} {at : Span} {p : Place} (y : Size) → TakesWord z p
        → Says (value a) y → HasType (value a) (stated y) → Types (Expr-F.Cast z s a at) p
    operation : {o : BinOp} {a b : Expr} {at : Span} {p : Place}
        → Operates o (value a) (value b) p → Types (Expr-F.Bin o a b at) p

  -- an access with a size is a word of it; one without has that of its place, where the place is
  -- of a word
  pub data Accesses : AccessLayer → Place → Type 0 where
    sized : {a : AccessLayer} {p : Place} (z : Size) → a.size ≡ Some z → TakesWord z p
        → HasType (value a.at) index → Accesses a p
    bare : {a : AccessLayer} {z : Size} → a.size ≡ None → HasType (value a.at) index
        → Accesses a (word z)

  -- an operation on two terms
  pub data Operates : BinOp → Term → Term → Place → Type 0 where
    -- arithmetic and bits: both are what the whole is
    arithmetic : {o : BinOp} {a b : Term} {p : Place} → group_of o ≡ group.Arith → TakesNumber p
        → Admits o a b → HasType a p → HasType b p → Operates o a b p
    -- a carry: a bool as the right operand of `+` and `-`
    carry : {o : BinOp} {a b : Term} {p : Place} → IsSum o → TakesCarry p → HasType a p
        → HasType b truth → Operates o a b p
    shift : {o : BinOp} {a b : Term} {p : Place} → group_of o ≡ group.Shift → TakesNumber p
        → Admits o a b → HasType a p → HasType b (count_place p) → Operates o a b p
    -- a comparison of integers, and one of words, of which one says the size
    integers : {o : BinOp} {a b : Term} → group_of o ≡ group.Compare → Admits o a b
        → HasType a integer → HasType b integer → Operates o a b truth
    words : {o : BinOp} {a b : Term} (z : Size) → group_of o ≡ group.Compare → Says a z ⊎ Says b z
        → HasType a (word z) → HasType b (word z) → Operates o a b truth
    logic : {o : BinOp} {a b : Term} → group_of o ≡ group.Logic → HasType a truth
        → HasType b truth → Operates o a b truth
