-- What turns expressions into expressions form by form, with the declarations of the variables, keeps their types.
use Rattle.std.proofs.Common.{◌≡◌, Some, None, Bool, true, false, ◌&&◌, refl, sym, ap, ap₂, ◌∙◌, subst, inl, inr, ℤ}
use Rattle.std.specs.Prelude.{◌⊎◌}
use Rattle.std.proofs.lemmas.Bool.{and_parts, false≢true, true≢false}
use Rattle.jz_tree.specs.declared.expr.Storage.{Storage}
use Rattle.jz_tree.specs.declared.expr.Storage.TheVariants as storage
use Rattle.jz_tree.specs.Size.{Size}
use Rattle.jz_tree.specs.Span.{Span}
use Rattle.jz_tree.specs.declared.expr.BinOp.{BinOp}
use Rattle.jz_tree.specs.declared.expr.Expr.{Expr}
use Rattle.jz_tree.specs.declared.expr.Access.{Access}
use Rattle.jz_tree.specs.declared.expr.Var.{Var}
use Rattle.jz_tree.specs.declared.expr.Expr.TheOpen.{Expr-F}
use Rattle.jz_tree.specs.declared.expr.Expr.TheViews.{out-Expr, out-Access}
use Rattle.jz_tree.specs.declared.stmt.Lval.{Lval}
use Rattle.jz_tree.specs.declared.stmt.Lval.TheVariants as lval
use Rattle.jz_type_names.specs.declared.kinds.Kind.{Kind}
use Rattle.jz_type_names.specs.declared.kinds.Kind.TheVariants as kind
use Rattle.jz_type_names.specs.Kinds.{Known, known_of, inline_int, is_inline_int, is_inline, is_array, is_array_kind}
use Rattle.jz_type_sizes.specs.Operators.{is_of_words}
use Rattle.jz_judgement.specs.Places.{Place, index, TakesWord, Goes, KindGoes, IsWordOf, WordKind, IsArrayOf, ArrayKind}
use Rattle.jz_judgement.specs.HasType as judged
use Rattle.jz_judgement.specs.HasType.{Layer, Term, value, left, result, Says, LayerSays, OperandSays, left_known, is_known, Admits, HasType, Types, Accesses, Operates}
use Rattle.jz_unroll.proofs.InlineParts.{inline_layer, inline_out}

-- ---- declarations
word_kind : (z : Size) (k : Kind) (p : Place) → WordKind z k → TakesWord z p → KindGoes k p
word_kind z (kind.Word y) p w t = subst (λ s. TakesWord s p) (sym w) t
word_kind z kind.Int p w t = absurd w
word_kind z kind.Truth p w t = absurd w
word_kind z (kind.Array y) p w t = absurd w

word_goes : (z : Size) (k : Known) (p : Place) → IsWordOf z k → TakesWord z p → Goes k p
word_goes z None p w t = absurd w
word_goes z (Some d) p w t = word_kind z d.kind p w t

array_kind : (y z : Size) (k : Kind) → ArrayKind y k → ArrayKind z k → y ≡ z
array_kind y z (kind.Array x) a b = sym a ∙ b
array_kind y z kind.Int a b = absurd a
array_kind y z kind.Truth a b = absurd a
array_kind y z (kind.Word x) a b = absurd a

pub one_array : (y z : Size) (k : Known) → IsArrayOf y k → IsArrayOf z k → y ≡ z
one_array y z None a b = absurd a
one_array y z (Some d) a b = array_kind y z d.kind a b

no_int : (s : Storage) (k : Kind) (z : Size) → WordKind z k → inline_int s k ≡ false
no_int storage.Inline (kind.Word y) z w = refl
no_int storage.Reg (kind.Word y) z w = refl
no_int storage.Stack (kind.Word y) z w = refl
no_int s kind.Int z w = absurd w
no_int s kind.Truth z w = absurd w
no_int s (kind.Array y) z w = absurd w

pub word_not_inline : (z : Size) (k : Known) → IsWordOf z k → is_inline_int k ≡ false
word_not_inline z None w = absurd w
word_not_inline z (Some d) w = no_int d.storage d.kind z w

no_array : (k : Kind) (z : Size) → ArrayKind z k → is_array_kind k ≡ true
no_array (kind.Array y) z a = refl
no_array kind.Int z a = absurd a
no_array kind.Truth z a = absurd a
no_array (kind.Word y) z a = absurd a

-- ---- forms
module _ (T : Expr → Expr) where
  -- an access of the same size at what the address becomes
  pub record AccessTurns (a b : Access) : Type 0 where
    pub size : (out-Access b).size ≡ (out-Access a).size
    pub at : (out-Access b).at ≡ T (out-Access a).at

  -- a cell of an array may become a word of its own
  pub data Turns : Layer → Layer → Type 0 where
    t_number : {n : ℤ} {at : Span} → Turns (Expr-F.Num n at) (Expr-F.Num n at)
    t_truth : {b : Bool} {at : Span} → Turns (Expr-F.Expr::Bool b at) (Expr-F.Expr::Bool b at)
    t_variable : {v w : Var} → known_of w ≡ known_of v → Turns (Expr-F.Var v) (Expr-F.Var w)
    t_cell : {v w : Var} {i : Expr} → known_of w ≡ known_of v → Turns (Expr-F.Cell v i) (Expr-F.Cell w (T i))
    t_scalar : {v w : Var} {i : Expr} (z : Size) → IsArrayOf z (known_of v) → IsWordOf z (known_of w) → Turns (Expr-F.Cell v i) (Expr-F.Var w)
    t_load : {a b : Access} → AccessTurns a b → Turns (Expr-F.Load a) (Expr-F.Load b)
    t_minus : {a : Expr} {at : Span} → Turns (Expr-F.Neg a at) (Expr-F.Neg (T a) at)
    t_denial : {a : Expr} {at : Span} → Turns (Expr-F.Not a at) (Expr-F.Not (T a) at)
    t_cast : {z : Size} {s : Bool} {a : Expr} {at : Span} → Turns (Expr-F.Cast z s a at) (Expr-F.Cast z s (T a) at)
    t_two : {o : BinOp} {a b : Expr} {at : Span} → Turns (Expr-F.Bin o a b at) (Expr-F.Bin o (T a) (T b) at)

  pub data LeftTurns : Lval → Lval → Type 0 where
    l_nothing : {at : Span} → LeftTurns (lval.Skip at) (lval.Skip at)
    l_variable : {v w : Var} → known_of w ≡ known_of v → LeftTurns (lval.Var v) (lval.Var w)
    l_cell : {v w : Var} {i : Expr} → known_of w ≡ known_of v → LeftTurns (lval.Cell v i) (lval.Cell w (T i))
    l_scalar : {v w : Var} {i : Expr} (z : Size) → IsArrayOf z (known_of v) → IsWordOf z (known_of w) → LeftTurns (lval.Cell v i) (lval.Var w)
    l_store : {a b : Access} → AccessTurns a b → LeftTurns (lval.Store a) (lval.Store b)

  -- an inline expression may become another one that has its types
  pub record BecomesValue (e : Expr) : Type 0 where
    pub inline : is_inline e ≡ true
    pub stays : is_inline (T e) ≡ true
    pub types : (p : Place) → HasType (value e) p → HasType (value (T e)) p

module _ (T : Expr → Expr) (L : Lval → Lval) where
  pub record IsTurning : Type 0 where
    pub expressions : (e : Expr) → BecomesValue T e ⊎ Turns T (out-Expr e) (out-Expr (T e))
    pub lefts : (d : Lval) → LeftTurns T d (L d)

  abbrev pub turned : Term → Term
  turned (value e) = value (T e)
  turned (left d) = left (L d)
  turned (result o d e) = result o (L d) (T e)

-- ---- an inline expression says no size
no_word : (k : Known) (z : Size) → IsWordOf z k → is_inline_int k ≡ true → ⊥
no_word k z w e = true≢false (sym e ∙ word_not_inline z k w)

mutual
  pub says_none : {e : Expr} {z : Size} → Says (value e) z → is_inline e ≡ true → ⊥
  says_none (judged.expression {e = e} s) i = layer_none s (sym (inline_out e) ∙ i)

  layer_none : {x : Layer} {z : Size} → LayerSays x z → inline_layer x ≡ true → ⊥
  layer_none (judged.variable {v = v} {z = z} w) i = no_word (known_of v) z w i
  layer_none (judged.cell w) i = false≢true i
  layer_none (judged.load w) i = false≢true i
  layer_none (judged.negated s) i = says_none s i
  layer_none (judged.inverted s) i = says_none s i
  layer_none judged.cast i = false≢true i
  layer_none (judged.operation {a = a} {b = b} s) i = operand_none s (and_parts (is_inline a) (is_inline b) i)

  operand_none : {o : BinOp} {a b : Expr} {z : Size} → OperandSays o (value a) (value b) z → (is_inline a ≡ true) × (is_inline b ≡ true) → ⊥
  operand_none (judged.first g s) i = says_none s i.0
  operand_none (judged.second g s) i = says_none s i.1
  operand_none (judged.shifted g s) i = says_none s i.0

-- ---- types
module _ (T : Expr → Expr) (L : Lval → Lval) (K : IsTurning T L) where
  abbrev W : Term → Term
  W t = turned T L t

  -- ---- sizes
  left_says : {d b : Lval} {z : Size} → Says (left d) z → LeftTurns T d b → Says (left b) z
  left_says {z = z} (judged.set_variable w) (l_variable k) = judged.set_variable (subst (IsWordOf z) (sym k) w)
  left_says {z = z} (judged.set_cell w) (l_cell k) = judged.set_cell (subst (IsArrayOf z) (sym k) w)
  left_says {z = z} (judged.set_cell {v = v} w) (l_scalar {w = u} y a b) = judged.set_variable (subst (λ s. IsWordOf s (known_of u)) (one_array y z (known_of v) a w) b)
  left_says (judged.set_access w) (l_store k) = judged.set_access (k.size ∙ w)

  mutual
    pub says_kept : {t : Term} {z : Size} → Says t z → Says (W t) z
    says_kept {t = left d} s = left_says s (K.lefts d)
    says_kept {t = value e} (judged.expression s) = elim (K.expressions e) [ inl v ↦ absurd (says_none (judged.expression {e = e} s) v.inline) | inr t ↦ judged.expression (layer_says s t) ]
    says_kept {t = result o d e} (judged.updated s) = judged.updated (operand_says s)

    layer_says : {x y : Layer} {z : Size} → LayerSays x z → Turns T x y → LayerSays y z
    layer_says {z = z} (judged.variable w) (t_variable k) = judged.variable (subst (IsWordOf z) (sym k) w)
    layer_says {z = z} (judged.cell w) (t_cell k) = judged.cell (subst (IsArrayOf z) (sym k) w)
    layer_says {z = z} (judged.cell {v = v} w) (t_scalar {w = u} y a b) = judged.variable (subst (λ s. IsWordOf s (known_of u)) (one_array y z (known_of v) a w) b)
    layer_says (judged.load w) (t_load k) = judged.load (k.size ∙ w)
    layer_says (judged.negated s) t_minus = judged.negated (says_kept s)
    layer_says (judged.inverted s) t_denial = judged.inverted (says_kept s)
    layer_says judged.cast t_cast = judged.cast
    layer_says (judged.operation s) t_two = judged.operation (operand_says s)

    operand_says : {o : BinOp} {a b : Term} {z : Size} → OperandSays o a b z → OperandSays o (W a) (W b) z
    operand_says (judged.first g s) = judged.first g (says_kept s)
    operand_says (judged.second g s) = judged.second g (says_kept s)
    operand_says (judged.shifted g s) = judged.shifted g (says_kept s)

  -- ---- what is known when the text is compiled
  left_same : {d b : Lval} → LeftTurns T d b → left_known b ≡ left_known d
  left_same l_nothing = refl
  left_same (l_variable k) = ap is_inline_int k
  left_same (l_cell k) = refl
  left_same (l_scalar {w = u} y a b) = word_not_inline y (known_of u) b
  left_same (l_store k) = refl

  mutual
    known_kept : {t : Term} {p : Place} → HasType t p → is_known (W t) ≡ is_known t
    known_kept {t = left d} h = left_same (K.lefts d)
    known_kept {t = value e} (judged.expression h) =
        elim (K.expressions e) [ inl v ↦ v.stays ∙ sym v.inline | inr t ↦ inline_out (T e) ∙ (layer_same h t ∙ sym (inline_out e)) ]
    known_kept {t = result o d e} (judged.updated h) = ap₂ (λ x y. x && y) (both_known h).1 (left_same (K.lefts d))

    layer_same : {x y : Layer} {p : Place} → Types x p → Turns T x y → inline_layer y ≡ inline_layer x
    layer_same (judged.number k) t_number = refl
    layer_same judged.bool t_truth = refl
    layer_same (judged.variable g) (t_variable k) = ap is_inline_int k
    layer_same (judged.cell z a t i) (t_cell k) = refl
    layer_same (judged.cell z a t i) (t_scalar {w = u} y b c) = word_not_inline y (known_of u) c
    layer_same (judged.load a) (t_load k) = refl
    layer_same (judged.negated k h) t_minus = known_kept h
    layer_same (judged.inverted h) t_denial = known_kept h
    layer_same (judged.cast y t s h) t_cast = refl
    layer_same (judged.operation h) t_two = let b = both_known h in ap₂ (λ x y. x && y) b.0 b.1

    both_known : {o : BinOp} {a b : Term} {p : Place} → Operates o a b p → (is_known (W a) ≡ is_known a) × (is_known (W b) ≡ is_known b)
    both_known (judged.arithmetic g t k x y) = (known_kept x, known_kept y)
    both_known (judged.carry s t x y) = (known_kept x, known_kept y)
    both_known (judged.shift g t k x y) = (known_kept x, known_kept y)
    both_known (judged.integers g k x y) = (known_kept x, known_kept y)
    both_known (judged.words z g s x y) = (known_kept x, known_kept y)
    both_known (judged.logic g x y) = (known_kept x, known_kept y)

  admits_kept : (o : BinOp) (a b : Term) → is_known (W a) ≡ is_known a → is_known (W b) ≡ is_known b → Admits o a b → Admits o (W a) (W b)
  admits_kept o a b x y k = ap₂ (λ i j. is_of_words o && (j && i)) x y ∙ k

  -- ---- left sides
  nothing_kept : {at : Span} {b : Lval} {p : Place} → LeftTurns T (lval.Skip at) b → HasType (left b) p
  nothing_kept l_nothing = judged.nothing

  array_kept : {v : Var} {b : Lval} {p : Place} → is_array (known_of v) ≡ true → LeftTurns T (lval.Var v) b → HasType (left b) p
  array_kept a (l_variable k) = judged.array (ap is_array k ∙ a)

  variable_kept : {v : Var} {b : Lval} {p : Place} → Goes (known_of v) p → LeftTurns T (lval.Var v) b → HasType (left b) p
  variable_kept {p = p} g (l_variable k) = judged.set_variable (subst (λ s. Goes s p) (sym k) g)

  cell_kept : {v : Var} {i : Expr} {b : Lval} {p : Place} (z : Size) → IsArrayOf z (known_of v) → TakesWord z p → HasType (value (T i)) index → LeftTurns T (lval.Cell v i) b → HasType (left b) p
  cell_kept z a t h (l_cell k) = judged.set_cell z (subst (IsArrayOf z) (sym k) a) t h
  cell_kept {v = v} {p = p} z a t h (l_scalar {w = u} y b c) =
      judged.set_variable (word_goes z (known_of u) p (subst (λ s. IsWordOf s (known_of u)) (one_array y z (known_of v) b a) c) t)

  access_kept : {a : Access} {b : Lval} {p : Place} → LeftTurns T (lval.Store a) b → ((c : Access) → AccessTurns T a c → Accesses (out-Access c) p) → HasType (left b) p
  access_kept (l_store {b = c} k) f = judged.set_access (f c k)

  -- ---- places
  mutual
    pub type_kept : {t : Term} {p : Place} → HasType t p → HasType (W t) p
    type_kept {t = value e} {p = p} (judged.expression h) = elim (K.expressions e) [ inl v ↦ v.types p (judged.expression h) | inr t ↦ judged.expression (layer_kept h t) ]
    type_kept (judged.updated h) = judged.updated (operates_kept h)
    type_kept (judged.nothing {at = at}) = nothing_kept (K.lefts (lval.Skip at))
    type_kept (judged.array {v = v} a) = array_kept a (K.lefts (lval.Var v))
    type_kept (judged.set_variable {v = v} g) = variable_kept g (K.lefts (lval.Var v))
    type_kept (judged.set_cell {v = v} {i = i} z a t h) = cell_kept z a t (type_kept h) (K.lefts (lval.Cell v i))
    type_kept (judged.set_access {a = a} h) = access_kept (K.lefts (lval.Store a)) (λ b k. accesses_kept h k)

    layer_kept : {x y : Layer} {p : Place} → Types x p → Turns T x y → Types y p
    layer_kept (judged.number k) t_number = judged.number k
    layer_kept judged.bool t_truth = judged.bool
    layer_kept {p = p} (judged.variable g) (t_variable k) = judged.variable (subst (λ s. Goes s p) (sym k) g)
    layer_kept (judged.cell z a t i) (t_cell k) = judged.cell z (subst (IsArrayOf z) (sym k) a) t (type_kept i)
    layer_kept {p = p} (judged.cell {v = v} z a t i) (t_scalar {w = u} y b c) =
        judged.variable (word_goes z (known_of u) p (subst (λ s. IsWordOf s (known_of u)) (one_array y z (known_of v) b a) c) t)
    layer_kept (judged.load h) (t_load k) = judged.load (accesses_kept h k)
    layer_kept (judged.negated k h) t_minus = judged.negated k (type_kept h)
    layer_kept (judged.inverted h) t_denial = judged.inverted (type_kept h)
    layer_kept (judged.cast y t s h) t_cast = judged.cast y t (says_kept s) (type_kept h)
    layer_kept (judged.operation h) t_two = judged.operation (operates_kept h)

    accesses_kept : {a b : Access} {p : Place} → Accesses (out-Access a) p → AccessTurns T a b → Accesses (out-Access b) p
    accesses_kept (judged.sized z s t h) k = judged.sized z (k.size ∙ s) t (subst (λ e. HasType (value e) index) (sym k.at) (type_kept h))
    accesses_kept (judged.bare s h) k = judged.bare (k.size ∙ s) (subst (λ e. HasType (value e) index) (sym k.at) (type_kept h))

    operates_kept : {o : BinOp} {a b : Term} {p : Place} → Operates o a b p → Operates o (W a) (W b) p
    operates_kept {o = o} {a = a} {b = b} (judged.arithmetic g t k x y) = judged.arithmetic g t (admits_kept o a b (known_kept x) (known_kept y) k) (type_kept x) (type_kept y)
    operates_kept (judged.carry s t x y) = judged.carry s t (type_kept x) (type_kept y)
    operates_kept {o = o} {a = a} {b = b} (judged.shift g t k x y) = judged.shift g t (admits_kept o a b (known_kept x) (known_kept y) k) (type_kept x) (type_kept y)
    operates_kept {o = o} {a = a} {b = b} (judged.integers g k x y) = judged.integers g (admits_kept o a b (known_kept x) (known_kept y) k) (type_kept x) (type_kept y)
    operates_kept (judged.words z g (inl s) x y) = judged.words z g (inl (says_kept s)) (type_kept x) (type_kept y)
    operates_kept (judged.words z g (inr s) x y) = judged.words z g (inr (says_kept s)) (type_kept x) (type_kept y)
    operates_kept (judged.logic g x y) = judged.logic g (type_kept x) (type_kept y)
