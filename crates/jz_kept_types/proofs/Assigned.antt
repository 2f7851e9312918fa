-- Left sides and their values keep their types.
use Rattle.std.proofs.Common.{◌≡◌, List, [], ◌∷◌, map, Option, Some, None, refl, sym, ap, ◌∙◌, subst, inl, inr}
use Rattle.std.specs.Prelude.{option_map}
use Rattle.jz_tree.specs.declared.expr.BinOp.{BinOp}
use Rattle.jz_tree.specs.declared.expr.Expr.{Expr}
use Rattle.jz_tree.specs.declared.expr.Access.{Access}
use Rattle.jz_tree.specs.declared.expr.Expr.TheViews.{out-Access}
use Rattle.jz_tree.specs.declared.stmt.Lval.{Lval}
use Rattle.jz_type_names.specs.Kinds.{known_of, is_inline_int, is_array}
use Rattle.jz_type_sizes.specs.Values.{is_product}
use Rattle.jz_judgement.specs.Places.{Place, word, index, IsWordOf, IsArrayOf}
use Rattle.jz_judgement.specs.HasType.{Term, value, left, HasType}
use Rattle.jz_judgement.specs.Lefts as lefts
use Rattle.jz_judgement.specs.Lefts.{IsBool, IsNumber, Wants, Leaves, Holds, Own, Takes, IsSound, IsFlag, IsProduct, value_term, Values}
use Rattle.jz_judgement.specs.WellTyped as well
use Rattle.jz_kept_types.proofs.Turning.{AccessTurns, LeftTurns, l_nothing, l_variable, l_cell, l_scalar, l_store, IsTurning, turned, says_kept, type_kept, one_array}

-- where there are two left sides
abbrev pub IfTwo : List Lval → Type 0 → Type 0
IfTwo (h ∷ l ∷ []) P = P
IfTwo to P = Unit {0}

module _ (T : Expr → Expr) (L : Lval → Lval) (K : IsTurning T L) where
  abbrev W : Term → Term
  W t = turned T L t

  at_kept : {a b : Access} → AccessTurns T a b → HasType (value (out-Access a).at) index → HasType (value (out-Access b).at) index
  at_kept k h = subst (λ e. HasType (value e) index) (sym k.at) (type_kept T L K h)

  wants_kept : {d b : Lval} {p : Place} → Wants d p → LeftTurns T d b → Wants b p
  wants_kept (lefts.number i) (l_variable k) = lefts.number (ap is_inline_int k ∙ i)
  wants_kept (lefts.bool i) (l_variable k) = lefts.bool (subst IsBool (sym k) i)
  wants_kept (lefts.variable {z = z} w) (l_variable k) = lefts.variable (subst (IsWordOf z) (sym k) w)
  wants_kept (lefts.cell {z = z} a h) (l_cell k) = lefts.cell (subst (IsArrayOf z) (sym k) a) (type_kept T L K h)
  wants_kept (lefts.cell {v = v} {z = z} a h) (l_scalar {w = u} y c d) = lefts.variable (subst (λ s. IsWordOf s (known_of u)) (one_array y z (known_of v) c a) d)
  wants_kept (lefts.access s h) (l_store k) = lefts.access (k.size ∙ s) (at_kept k h)

  leaves_kept : {d b : Lval} {p : Place} → Leaves d p → LeftTurns T d b → Leaves b p
  leaves_kept lefts.nothing l_nothing = lefts.nothing
  leaves_kept (lefts.array a) (l_variable k) = lefts.array (ap is_array k ∙ a)
  leaves_kept (lefts.number n i t) (l_variable k) = lefts.number (subst IsNumber (sym k) n) (ap is_inline_int k ∙ i) t
  leaves_kept (lefts.access s h) (l_store k) = lefts.access (k.size ∙ s) (at_kept k h)

  pub holds_kept : (d : Lval) (p : Place) → Holds p d → Holds p (L d)
  holds_kept d p (inl w) = inl (wants_kept w (K.lefts d))
  holds_kept d p (inr l) = inr (leaves_kept l (K.lefts d))

  pub leaves_there : (d : Lval) (p : Place) → Leaves d p → Leaves (L d) p
  leaves_there d p l = leaves_kept l (K.lefts d)

  own_kept : {x : Term} {p : Place} → Own x p → Own (W x) p
  own_kept lefts.bool = lefts.bool
  own_kept (lefts.sized s) = lefts.sized (says_kept T L K s)
  own_kept lefts.number = lefts.number

  takes_kept : {d : Lval} {x : Term} → Takes d x → Takes (L d) (W x)
  takes_kept {d = d} (lefts.wanted p w h) = lefts.wanted p (wants_kept w (K.lefts d)) (type_kept T L K h)
  takes_kept {d = d} (lefts.left p l o h) = lefts.left p (leaves_kept l (K.lefts d)) (own_kept o) (type_kept T L K h)

  sound_kept : {d b : Lval} → IsSound d → LeftTurns T d b → IsSound b
  sound_kept lefts.nothing l_nothing = lefts.nothing
  sound_kept lefts.variable (l_variable k) = lefts.variable
  sound_kept (lefts.cell z a h) (l_cell k) = lefts.cell z (subst (IsArrayOf z) (sym k) a) (type_kept T L K h)
  sound_kept (lefts.cell z a h) (l_scalar y c d) = lefts.variable
  sound_kept (lefts.access h) (l_store k) = lefts.access (at_kept k h)

  pub sound_there : (d : Lval) → IsSound d → IsSound (L d)
  sound_there d s = sound_kept s (K.lefts d)

  flag_by : {d b : Lval} → IsFlag d → LeftTurns T d b → IsFlag b
  flag_by lefts.nothing l_nothing = lefts.nothing
  flag_by (lefts.variable i) (l_variable k) = lefts.variable (subst IsBool (sym k) i)

  pub flag_kept : (d : Lval) → IsFlag d → IsFlag (L d)
  flag_kept d f = flag_by f (K.lefts d)

  product_kept : {h l : Lval} {x : Term} → IsProduct h l x → IsProduct (L h) (L l) (W x)
  product_kept {h} {l} (lefts.words z (inl w) a b t) = lefts.words z (inl (wants_kept w (K.lefts h))) (holds_kept h (word z) a) (holds_kept l (word z) b) (type_kept T L K t)
  product_kept {h} {l} (lefts.words z (inr (inl w)) a b t) = lefts.words z (inr (inl (wants_kept w (K.lefts l)))) (holds_kept h (word z) a) (holds_kept l (word z) b) (type_kept T L K t)
  product_kept {h} {l} (lefts.words z (inr (inr s)) a b t) = lefts.words z (inr (inr (says_kept T L K s))) (holds_kept h (word z) a) (holds_kept l (word z) b) (type_kept T L K t)
  product_kept {h} {l} (lefts.numbers a b t) = lefts.numbers (leaves_kept a (K.lefts h)) (leaves_kept b (K.lefts l)) (type_kept T L K t)

  term_is : (o : Option BinOp) (d : Lval) (e : Expr) → W (value_term o d e) ≡ value_term o (L d) (T e)
  term_is None d e = refl
  term_is (Some o) d e = refl

  pub values_kept : (to : List Lval) (o : Option BinOp) (e : Expr) → IfTwo to (is_product o (T e) ≡ is_product o e) → Values to o e → Values (map L to) o (T e)
  values_kept [] o e q lefts.nothing = lefts.nothing
  values_kept (d ∷ []) o e q (lefts.one t) = lefts.one (subst (Takes (L d)) (term_is o d e) (takes_kept t))
  values_kept (h ∷ l ∷ []) o e q (lefts.product p t) = lefts.product (q ∙ p) (subst (IsProduct (L h) (L l)) (term_is o l e) (product_kept t))
  values_kept (c ∷ d ∷ []) o e q (lefts.flagged p f t) = lefts.flagged (q ∙ p) (flag_kept c f) (subst (Takes (L d)) (term_is o d e) (takes_kept t))
  values_kept (h ∷ (l ∷ (d ∷ ds))) o e q x = elim x [ ]

  pub condition_kept : (c : Option Expr) → well.Condition c → well.Condition (option_map T c)
  condition_kept None h = tt
  condition_kept (Some e) h = type_kept T L K h
