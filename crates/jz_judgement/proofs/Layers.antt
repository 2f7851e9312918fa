-- The judgement of each form of an expression and what typing finds there.
use Rattle.std.proofs.Common.{◌≡◌, ℤ, Bool, true, false, ◌&&◌, [], Option, Some, None, refl, sym, ap, ◌∙◌, subst}
use Rattle.std.specs.Prelude.{is_some}
use Rattle.std.proofs.lemmas.Bool.{false≢true}
use Rattle.jz_tree.specs.Span.{Span}
use Rattle.jz_tree.specs.Size.{Size}
use Rattle.jz_tree.specs.declared.expr.BinOp.{BinOp}
use Rattle.jz_tree.specs.declared.expr.Expr.{Expr}
use Rattle.jz_tree.specs.declared.expr.Access.{Access}
use Rattle.jz_tree.specs.declared.expr.Var.{Var}
use Rattle.jz_tree.specs.declared.expr.Expr.TheOpen.{Expr-F}
use Rattle.jz_tree.specs.declared.expr.Expr.TheViews.{out-Access, out-Var}
use Rattle.jz_type_names.specs.Order.{unless}
use Rattle.jz_type_names.specs.Kinds.{Known, known_of, is_inline_int}
use Rattle.jz_type_sizes.specs.declared.wants.Want.{Want}
use Rattle.jz_type_sizes.specs.declared.wants.Want.TheVariants as want
use Rattle.jz_type_sizes.specs.Wants.{fits_int, fits_truth, fits_word, fits_access, fits_known, fits_cell, known_size, cell_size, cast_want, index_want}
use Rattle.jz_type_sizes.specs.Typings.{Typing, typing_step, access_typing, var_typing, cell_typing}
use Rattle.jz_judgement.specs.Places.{Place, integer, truth, word, stated, index, unsized, IsTruth, TakesWord, Goes, IsArrayOf}
use Rattle.jz_judgement.specs.HasType as judged
use Rattle.jz_judgement.specs.HasType.{Layer, AccessLayer, Term, value, left, result, Says, LayerSays, OperandSays, is_known, HasType, Types, Accesses, Operates}
use Rattle.jz_judgement.specs.Agreement.{want_of}
use Rattle.jz_judgement.proofs.Nothing.{some_not, none_not, same_some, number_goes, number_fits, number_no_truth, word_goes, word_fits, truth_goes, is_truth, size_same, no_bool, no_bool_so}
use Rattle.jz_type_names.proofs.Empty.{one_not, both, joined, passed, passes}
use Rattle.jz_judgement.proofs.Variables.{known_goes, known_fits, cell_goes, array_sized, sized_array, word_sized, sized_word, known_one, cell_one, known_stated, cell_stated, known_whole, known_free, known_any, inline_size, known_bool, bool_size, known_number}
use Rattle.jz_judgement.proofs.Agreeing.{IsRight, Agrees, IsApart, SaysItself}
use Rattle.jz_judgement.proofs.Operations.{operation_agrees, operation_apart, operation_says}

-- all that is known of an expression
pub record Judged (t : Typing) (H : Place → Type 0) (S : Size → Type 0) (known : Bool) : Type 0 where
  pub agrees : Agrees t H S known
  pub apart : IsApart t
  pub itself : SaysItself t

-- the same of another judgement that says the same
pub mapped : {t : Typing} {H J : Place → Type 0} {S R : Size → Type 0} {k : Bool} → ((p : Place) → H p → J p) → ((p : Place) → J p → H p) → ((z : Size) → S z → R z) → ((z : Size) → R z → S z) → Agrees t H S k → Agrees t J R k
mapped to from says said h = record {
  holds = λ p r. to p (h.holds p r);
  right = λ p j. h.right p (from p j);
  says = λ z e. says z (h.says z e);
  said = λ z r. h.said z (said z r);
  inline = h.inline;
  one = h.one;
  stated = h.stated;
  whole = h.whole;
  free = h.free;
  no_word = h.no_word;
  no_size = h.no_size;
}

pub judged_as : {t : Typing} {H J : Place → Type 0} {S R : Size → Type 0} {k : Bool} → ((p : Place) → H p → J p) → ((p : Place) → J p → H p) → ((z : Size) → S z → R z) → ((z : Size) → R z → S z) → Judged t H S k → Judged t J R k
judged_as to from says said h = record { agrees = mapped to from says said h.agrees; apart = h.apart; itself = h.itself }

-- ---- numbers and bools
number_right : (n : ℤ) (at : Span) (p : Place) → Types (Expr-F.Num n at) p → IsRight (typing_step (Expr-F.Num n at)) p
number_right n at p (judged.number h) = passes (fits_int (want_of p)) at (number_fits p h)

number_says : (n : ℤ) (at : Span) (z : Size) → LayerSays (Expr-F.Num n at) z → ⊥
number_says n at z s = elim s [ ]

pub number_judged : (n : ℤ) (at : Span) → Judged (typing_step (Expr-F.Num n at)) (Types (Expr-F.Num n at)) (LayerSays (Expr-F.Num n at)) true
number_judged n at = record {
  agrees = record {
    holds = λ p r. judged.number (number_goes p (passed (fits_int (want_of p)) at r));
    right = number_right n at;
    says = λ z e. absurd (none_not z e);
    said = λ z s. absurd (number_says n at z s);
    inline = refl;
    one = λ y z h e. absurd (none_not y e);
    stated = λ y z h e. absurd (none_not y e);
    whole = λ h. refl;
    free = λ h. refl;
    no_word = λ i h. one_not at [] h;
    no_size = λ i. refl;
  };
  apart = record { bool = λ h. absurd (one_not at [] h); size = λ h. refl; number = λ p n h. refl };
  itself = λ e h. one_not at [] h;
}

bool_holds : (b : Bool) (at : Span) (p : Place) → IsTruth p → Types (Expr-F.Expr::Bool b at) p
bool_holds b at p h = subst (λ q. Types (Expr-F.Expr::Bool b at) q) (sym (is_truth p h)) judged.bool

bool_right : (b : Bool) (at : Span) (p : Place) → Types (Expr-F.Expr::Bool b at) p → IsRight (typing_step (Expr-F.Expr::Bool b at)) p
bool_right b at p judged.bool = refl

bool_says : (b : Bool) (at : Span) (z : Size) → LayerSays (Expr-F.Expr::Bool b at) z → ⊥
bool_says b at z s = elim s [ ]

pub bool_judged : (b : Bool) (at : Span) → Judged (typing_step (Expr-F.Expr::Bool b at)) (Types (Expr-F.Expr::Bool b at)) (LayerSays (Expr-F.Expr::Bool b at)) true
bool_judged b at = record {
  agrees = record {
    holds = λ p r. bool_holds b at p (truth_goes p (passed (fits_truth (want_of p)) at r));
    right = bool_right b at;
    says = λ z e. absurd (none_not z e);
    said = λ z s. absurd (bool_says b at z s);
    inline = refl;
    one = λ y z h e. absurd (none_not y e);
    stated = λ y z h e. absurd (none_not y e);
    whole = λ h. refl;
    free = λ h. refl;
    no_word = λ i h. one_not at [] h;
    no_size = λ i. refl;
  };
  apart = record { bool = λ h. refl; size = λ h. refl; number = λ p n h. absurd (number_no_truth p n (passed (fits_truth (want_of p)) at h)) };
  itself = λ e h. one_not at [] h;
}

-- ---- variables, where H and S are what is judged of them
known_no_word : (k : Known) → is_inline_int k ≡ true → fits_known k want.AnyWord ≡ true → ⊥
known_no_word k i h = known_any k (inline_size k i) h

pub var_agrees : (k : Known) (at : Span) → Agrees (var_typing k at) (Goes k) (λ z. known_size k ≡ Some z) (is_inline_int k)
var_agrees k at = record {
  holds = λ p r. known_goes k p (passed (fits_known k (want_of p)) at r);
  right = λ p g. passes (fits_known k (want_of p)) at (known_fits k p g);
  says = λ z e. e;
  said = λ z e. ap is_some e;
  inline = refl;
  one = λ y z h e. known_one y z k (passed (fits_known k (want.Word z)) at h) e;
  stated = λ y z h e. known_stated y z k (passed (fits_known k (want.Sized z)) at h) e;
  whole = λ h. known_whole k (passed (fits_known k want.Int) at h);
  free = λ h. known_free k (passed (fits_known k want.Unsized) at h);
  no_word = λ i h. known_no_word k i (passed (fits_known k want.AnyWord) at h);
  no_size = λ i. inline_size k i;
}

var_plain : (k : Known) (at : Span) → Judged (var_typing k at) (Goes k) (λ z. known_size k ≡ Some z) (is_inline_int k)
var_plain k at = record {
  agrees = var_agrees k at;
  apart = record {
    bool = λ h. known_bool k (passed (fits_known k want.Truth) at h);
    size = λ h. bool_size k h;
    number = λ p n h. known_number k p n (passed (fits_known k (want_of p)) at h);
  };
  itself = λ e h. known_any k e (passed (fits_known k want.AnyWord) at h);
}

var_from : (v : Var) (p : Place) → Types (Expr-F.Var v) p → Goes (known_of v) p
var_from v p (judged.variable g) = g

var_said : (v : Var) (z : Size) → LayerSays (Expr-F.Var v) z → known_size (known_of v) ≡ Some z
var_said v z (judged.variable w) = word_sized z (known_of v) w

-- q is what a fold says of it, and k another
pub var_judged : (v : Var) (q : Known × Span) (k : Known) → q ≡ (known_of v, (out-Var v).span) → k ≡ known_of v
    → Judged (typing_step (Expr-F.Var q)) (Types (Expr-F.Var v)) (LayerSays (Expr-F.Var v)) (is_inline_int k)
var_judged v q k e f =
    subst (λ q. Judged (typing_step (Expr-F.Var q)) (Types (Expr-F.Var v)) (LayerSays (Expr-F.Var v)) (is_inline_int k)) (sym e)
    (subst (λ k. Judged (var_typing (known_of v) (out-Var v).span) (Types (Expr-F.Var v)) (LayerSays (Expr-F.Var v)) (is_inline_int k)) (sym f)
    (judged_as (λ p g. judged.variable g) (var_from v) (λ z e. judged.variable (sized_word z (known_of v) e)) (var_said v) (var_plain (known_of v) (out-Var v).span)))

-- ---- cells, with the index i
pub data Cell (k : Known) (I : Type 0) : Place → Type 0 where
  at_cell : {p : Place} (z : Size) → IsArrayOf z k → TakesWord z p → I → Cell k I p

cell_fits : (k : Known) (z : Size) (p : Place) → IsArrayOf z k → TakesWord z p → fits_cell (cell_size k) (want_of p) ≡ true
cell_fits k z p g h = subst (λ s. fits_cell s (want_of p) ≡ true) (sym (array_sized z k g)) (word_fits z p h)

module _ (k : Known) (at : Span) (i : Typing) (e : Expr) (h : Agrees i (HasType (value e)) (Says (value e)) (is_known (value e))) where
  cell_holds : (p : Place) → IsRight (cell_typing k at i) p → Cell k (HasType (value e) index) p
  cell_holds p r =
      let parts = both (unless (fits_cell (cell_size k) (want_of p)) at) (i.wrong index_want) r in
      let goes = cell_goes k p (passed (fits_cell (cell_size k) (want_of p)) at parts.0) in
      at_cell goes.0 goes.1 goes.2 (h.holds index parts.1)

  cell_right : (p : Place) → Cell k (HasType (value e) index) p → IsRight (cell_typing k at i) p
  cell_right p (at_cell z g w j) =
      joined (unless (fits_cell (cell_size k) (want_of p)) at) (i.wrong index_want) (passes (fits_cell (cell_size k) (want_of p)) at (cell_fits k z p g w)) (h.right index j)

  fits_at : (w : Want) → (cell_typing k at i).wrong w ≡ [] → fits_cell (cell_size k) w ≡ true
  fits_at w r = passed (fits_cell (cell_size k) w) at (both (unless (fits_cell (cell_size k) w) at) (i.wrong index_want) r).0

  cell_none : (s : Option Size) (w : Want) → s ≡ None → fits_cell s w ≡ true → ⊥
  cell_none None w e f = false≢true f
  cell_none (Some z) w e f = some_not z e

  no_cell : (s : Option Size) → fits_cell s want.Int ≡ true → ⊥
  no_cell None f = false≢true f
  no_cell (Some z) f = false≢true f

  free_cell : (s : Option Size) → fits_cell s want.Unsized ≡ true → ⊥
  free_cell None f = false≢true f
  free_cell (Some z) f = false≢true f

  no_bool_cell : (s : Option Size) → fits_cell s want.Truth ≡ true → ⊥
  no_bool_cell None f = false≢true f
  no_bool_cell (Some z) f = false≢true f

  pub cell_agrees : Agrees (cell_typing k at i) (Cell k (HasType (value e) index)) (λ z. cell_size k ≡ Some z) false
  cell_agrees = record {
    holds = cell_holds;
    right = cell_right;
    says = λ z e. e;
    said = λ z e. ap is_some e;
    inline = refl;
    one = λ y z r e. cell_one y z (cell_size k) (fits_at (want.Word z) r) e;
    stated = λ y z r e. cell_stated y z (cell_size k) (fits_at (want.Sized z) r) e;
    whole = λ r. absurd (no_cell (cell_size k) (fits_at want.Int r));
    free = λ r. absurd (free_cell (cell_size k) (fits_at want.Unsized r));
    no_word = λ b r. false≢true b;
    no_size = λ b. absurd (false≢true b);
  }

  cell_plain : Judged (cell_typing k at i) (Cell k (HasType (value e) index)) (λ z. cell_size k ≡ Some z) false
  cell_plain = record {
    agrees = cell_agrees;
    apart = record { bool = λ r. absurd (no_bool_cell (cell_size k) (fits_at want.Truth r)); size = λ b. absurd (false≢true b); number = λ p n r. refl };
    itself = λ e r. cell_none (cell_size k) want.AnyWord e (fits_at want.AnyWord r);
  }

cell_to : (v : Var) (e : Expr) (p : Place) → Cell (known_of v) (HasType (value e) index) p → Types (Expr-F.Cell v e) p
cell_to v e p (at_cell z g w j) = judged.cell z g w j

cell_from : (v : Var) (e : Expr) (p : Place) → Types (Expr-F.Cell v e) p → Cell (known_of v) (HasType (value e) index) p
cell_from v e p (judged.cell z g w j) = at_cell z g w j

cell_said : (v : Var) (e : Expr) (z : Size) → LayerSays (Expr-F.Cell v e) z → cell_size (known_of v) ≡ Some z
cell_said v e z (judged.cell w) = array_sized z (known_of v) w

pub cell_judged : (v : Var) (q : Known × Span) (i : Typing) (e : Expr) → q ≡ (known_of v, (out-Var v).span) → Agrees i (HasType (value e)) (Says (value e)) (is_known (value e))
    → Judged (typing_step (Expr-F.Cell q i)) (Types (Expr-F.Cell v e)) (LayerSays (Expr-F.Cell v e)) false
cell_judged v q i e same h =
    subst (λ q. Judged (typing_step (Expr-F.Cell q i)) (Types (Expr-F.Cell v e)) (LayerSays (Expr-F.Cell v e)) false) (sym same)
    (judged_as (cell_to v e) (cell_from v e) (λ z c. judged.cell (sized_array z (known_of v) c)) (cell_said v e) (cell_plain (known_of v) (out-Var v).span i e h))

-- ---- accesses
access_goes : (s : Option Size) (p : Place) → fits_access s (want_of p) ≡ true → (a : AccessLayer) → a.size ≡ s → HasType (value a.at) index → Accesses a p
access_goes (Some z) p e a s h = judged.sized z s (word_goes z p e) h
access_goes None (word z) e a s h = judged.bare s h
access_goes None integer e a s h = absurd (false≢true e)
access_goes None truth e a s h = absurd (false≢true e)
access_goes None (stated y) e a s h = absurd (false≢true e)
access_goes None unsized e a s h = absurd (false≢true e)

access_fits : (a : AccessLayer) (p : Place) → Accesses a p → (fits_access a.size (want_of p) ≡ true) × HasType (value a.at) index
access_fits a p (judged.sized z e w h) = (ap (λ s. fits_access s (want_of p)) e ∙ word_fits z p w, h)
access_fits a p (judged.bare {z = z} e h) = (ap (λ s. fits_access s (want.Word z)) e, h)

access_one : (y z : Size) (s : Option Size) → fits_access s (want.Word z) ≡ true → s ≡ Some y → y ≡ z
access_one y z None h e = absurd (none_not y e)
access_one y z (Some x) h e = sym (same_some x y e) ∙ size_same x z h

access_stated : (y z : Size) (s : Option Size) → fits_access s (want.Sized z) ≡ true → s ≡ Some y → y ≡ z
access_stated y z None h e = absurd (none_not y e)
access_stated y z (Some x) h e = sym (same_some x y e) ∙ size_same x z h

access_whole : (s : Option Size) → fits_access s want.Int ≡ true → ⊥
access_whole None h = false≢true h
access_whole (Some z) h = false≢true h

access_free : (s : Option Size) → fits_access s want.Unsized ≡ true → ⊥
access_free None h = false≢true h
access_free (Some z) h = false≢true h

access_bool : (s : Option Size) → fits_access s want.Truth ≡ true → ⊥
access_bool None h = false≢true h
access_bool (Some z) h = false≢true h

access_any : (s : Option Size) → s ≡ None → fits_access s want.AnyWord ≡ true → ⊥
access_any None e h = false≢true h
access_any (Some z) e h = some_not z e

module _ (a : AccessLayer) (i : Typing) (h : Agrees i (HasType (value a.at)) (Says (value a.at)) (is_known (value a.at))) where
  abbrev access_typed : Typing
  access_typed = access_typing (record { size = a.size; at = i; unaligned = a.unaligned; span = a.span })

  access_at : (w : Want) → access_typed.wrong w ≡ [] → (fits_access a.size w ≡ true) × (i.wrong index_want ≡ [])
  access_at w r = let parts = both (unless (fits_access a.size w) a.span) (i.wrong index_want) r in (passed (fits_access a.size w) a.span parts.0, parts.1)

  access_holds : (p : Place) → IsRight access_typed p → Accesses a p
  access_holds p r = let parts = access_at (want_of p) r in access_goes a.size p parts.0 a refl (h.holds index parts.1)

  access_right : (p : Place) → Accesses a p → IsRight access_typed p
  access_right p g =
      let f = access_fits a p g in
      joined (unless (fits_access a.size (want_of p)) a.span) (i.wrong index_want) (passes (fits_access a.size (want_of p)) a.span f.0) (h.right index f.1)

  pub access_judged : Judged access_typed (Accesses a) (λ z. a.size ≡ Some z) false
  access_judged = record {
    agrees = record {
      holds = access_holds;
      right = access_right;
      says = λ z e. e;
      said = λ z e. ap is_some e;
      inline = refl;
      one = λ y z r e. access_one y z a.size (access_at (want.Word z) r).0 e;
      stated = λ y z r e. access_stated y z a.size (access_at (want.Sized z) r).0 e;
      whole = λ r. absurd (access_whole a.size (access_at want.Int r).0);
      free = λ r. absurd (access_free a.size (access_at want.Unsized r).0);
      no_word = λ b r. false≢true b;
      no_size = λ b. absurd (false≢true b);
    };
    apart = record { bool = λ r. absurd (access_bool a.size (access_at want.Truth r).0); size = λ b. absurd (false≢true b); number = λ p n r. refl };
    itself = λ e r. access_any a.size e (access_at want.AnyWord r).0;
  }

load_from : (a : Access) (p : Place) → Types (Expr-F.Load a) p → Accesses (out-Access a) p
load_from a p (judged.load g) = g

load_said : (a : Access) (z : Size) → LayerSays (Expr-F.Load a) z → (out-Access a).size ≡ Some z
load_said a z (judged.load e) = e

pub load_judged : (a : Access) (t : Typing) → Judged t (Accesses (out-Access a)) (λ z. (out-Access a).size ≡ Some z) false
    → Judged t (Types (Expr-F.Load a)) (LayerSays (Expr-F.Load a)) false
load_judged a t h = judged_as (λ p g. judged.load g) (load_from a) (λ z e. judged.load e) (load_said a) h

-- ---- one operand
abbrev Typed : Typing → Expr → Bool → Type 0
Typed t e k = Judged t (HasType (value e)) (Says (value e)) k

inverted_from : (e : Expr) (at : Span) (p : Place) → Types (Expr-F.Not e at) p → HasType (value e) p
inverted_from e at p (judged.inverted h) = h

inverted_said : (e : Expr) (at : Span) (z : Size) → LayerSays (Expr-F.Not e at) z → Says (value e) z
inverted_said e at z (judged.inverted s) = s

pub inverted_judged : (e : Expr) (at : Span) (t : Typing) (k : Bool) → Typed t e k → Judged (typing_step (Expr-F.Not t at)) (Types (Expr-F.Not e at)) (LayerSays (Expr-F.Not e at)) k
inverted_judged e at t k h = judged_as (λ p g. judged.inverted g) (inverted_from e at) (λ z s. judged.inverted s) (inverted_said e at) h

module _ (e : Expr) (at : Span) (t : Typing) (k : Bool) (h : Typed t e k) where
  negated_right : (p : Place) → Types (Expr-F.Neg e at) p → IsRight (typing_step (Expr-F.Neg t at)) p
  negated_right p (judged.negated n g) = no_bool_so p at (t.wrong (want_of p)) n (h.agrees.right p g)

  negated_holds : (p : Place) → IsRight (typing_step (Expr-F.Neg t at)) p → Types (Expr-F.Neg e at) p
  negated_holds p r = let parts = no_bool p at (t.wrong (want_of p)) r in judged.negated parts.0 (h.agrees.holds p parts.1)

  negated_said : (z : Size) → LayerSays (Expr-F.Neg e at) z → is_some t.form.size ≡ true
  negated_said z (judged.negated s) = h.agrees.said z s

  pub negated_judged : Judged (typing_step (Expr-F.Neg t at)) (Types (Expr-F.Neg e at)) (LayerSays (Expr-F.Neg e at)) k
  negated_judged = record {
    agrees = record {
      holds = negated_holds;
      right = negated_right;
      says = λ z s. judged.negated (h.agrees.says z s);
      said = negated_said;
      inline = h.agrees.inline;
      one = h.agrees.one;
      stated = h.agrees.stated;
      whole = h.agrees.whole;
      free = h.agrees.free;
      no_word = h.agrees.no_word;
      no_size = h.agrees.no_size;
    };
    apart = record { bool = λ r. absurd (one_not at [] r); size = λ b. absurd (false≢true b); number = λ p n r. refl };
    itself = h.itself;
  }

module _ (z : Size) (s : Bool) (e : Expr) (at : Span) (t : Typing) (k : Bool) (h : Typed t e k) where
  abbrev cast_typed : Typing
  cast_typed = typing_step (Expr-F.Cast z s t at)

  cast_at : (w : Want) → cast_typed.wrong w ≡ [] → (fits_word z w ≡ true) × (t.wrong (cast_want t.form.size) ≡ [])
  cast_at w r = let parts = both (unless (fits_word z w) at) (t.wrong (cast_want t.form.size)) r in (passed (fits_word z w) at parts.0, parts.1)

  cast_holds : (p : Place) → IsRight cast_typed p → Types (Expr-F.Cast z s e at) p
  cast_holds p r = at_size t.form.size refl parts.1
    where
      parts : (fits_word z (want_of p) ≡ true) × (t.wrong (cast_want t.form.size) ≡ [])
      parts = cast_at (want_of p) r

      at_size : (c : Option Size) → t.form.size ≡ c → t.wrong (cast_want c) ≡ [] → Types (Expr-F.Cast z s e at) p
      at_size None q w = absurd (h.itself q w)
      at_size (Some y) q w = judged.cast y (word_goes z p parts.0) (h.agrees.says y q) (h.agrees.holds (stated y) w)

  own : (y : Size) → t.wrong (want.Sized y) ≡ [] → (c : Option Size) → t.form.size ≡ c → is_some c ≡ true → t.wrong (cast_want c) ≡ []
  own y w None q b = absurd (false≢true b)
  own y w (Some x) q b = ap (λ u. t.wrong (want.Sized u)) (h.agrees.stated x y w q) ∙ w

  cast_right : (p : Place) → Types (Expr-F.Cast z s e at) p → IsRight cast_typed p
  cast_right p (judged.cast y w says g) =
      joined (unless (fits_word z (want_of p)) at) (t.wrong (cast_want t.form.size)) (passes (fits_word z (want_of p)) at (word_fits z p w))
      (own y (h.agrees.right (stated y) g) t.form.size refl (h.agrees.said y says))

  cast_says : (y : Size) → Some z ≡ Some y → LayerSays (Expr-F.Cast z s e at) y
  cast_says y q = subst (λ v. LayerSays (Expr-F.Cast z s e at) v) (same_some z y q) judged.cast

  pub cast_judged : Judged cast_typed (Types (Expr-F.Cast z s e at)) (LayerSays (Expr-F.Cast z s e at)) false
  cast_judged = record {
    agrees = record {
      holds = cast_holds;
      right = cast_right;
      says = cast_says;
      said = λ y g. refl;
      inline = refl;
      one = λ x y r q. sym (same_some z x q) ∙ size_same z y (cast_at (want.Word y) r).0;
      stated = λ x y r q. sym (same_some z x q) ∙ size_same z y (cast_at (want.Sized y) r).0;
      whole = λ r. absurd (false≢true (cast_at want.Int r).0);
      free = λ r. absurd (false≢true (cast_at want.Unsized r).0);
      no_word = λ b r. false≢true b;
      no_size = λ b. absurd (false≢true b);
    };
    apart = record { bool = λ r. absurd (false≢true (cast_at want.Truth r).0); size = λ b. absurd (false≢true b); number = λ p n r. refl };
    itself = λ q r. some_not z q;
  }

-- ---- two operands
bin_from : (o : BinOp) (a b : Expr) (at : Span) (p : Place) → Types (Expr-F.Bin o a b at) p → Operates o (value a) (value b) p
bin_from o a b at p (judged.operation h) = h

bin_said : (o : BinOp) (a b : Expr) (at : Span) (z : Size) → LayerSays (Expr-F.Bin o a b at) z → OperandSays o (value a) (value b) z
bin_said o a b at z (judged.operation s) = s

pub bin_judged : (o : BinOp) (a b : Expr) (at : Span) (t u : Typing) → Typed t a (is_known (value a)) → Typed u b (is_known (value b))
    → Judged (typing_step (Expr-F.Bin o t u at)) (Types (Expr-F.Bin o a b at)) (LayerSays (Expr-F.Bin o a b at)) (is_known (value b) && is_known (value a))
bin_judged o a b at t u ha hb = record {
  agrees = mapped (λ p g. judged.operation g) (bin_from o a b at) (λ z s. judged.operation s) (bin_said o a b at) (operation_agrees o at t u (value a) (value b) ha.agrees hb.agrees hb.apart);
  apart = operation_apart o at t u (value a) (value b) ha.agrees hb.agrees hb.apart;
  itself = operation_says o at t u (value a) (value b) ha.agrees hb.agrees hb.apart ha.itself;
}
