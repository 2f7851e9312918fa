-- What left sides take, by the judgement and by what typing finds.
use Rattle.std.proofs.Common.{◌≡◌, Bool, true, false, [], ◌++◌, Option, Some, None, refl, sym, ap, ◌∙◌, subst}
use Rattle.std.specs.Prelude.{if◌then◌else◌, is_some}
use Rattle.std.proofs.lemmas.Bool.{false≢true, true≢false}
use Rattle.jz_tree.specs.Span.{Span}
use Rattle.jz_tree.specs.Size.{Size}
use Rattle.jz_tree.specs.declared.expr.BinOp.{BinOp}
use Rattle.jz_tree.specs.declared.expr.Expr.{Expr}
use Rattle.jz_tree.specs.declared.expr.Access.{Access}
use Rattle.jz_tree.specs.declared.expr.Var.{Var}
use Rattle.jz_tree.specs.declared.expr.Expr.TheViews.{out-Access, out-Var}
use Rattle.jz_tree.specs.declared.stmt.Lval.{Lval}
use Rattle.jz_tree.specs.declared.stmt.Lval.TheVariants as lval
use Rattle.jz_type_names.specs.Order.{unless}
use Rattle.jz_type_names.specs.Kinds.{Known, known_of, is_inline_int, is_array}
use Rattle.jz_type_sizes.specs.declared.wants.Form.{Form}
use Rattle.jz_type_sizes.specs.declared.wants.Want.{Want}
use Rattle.jz_type_sizes.specs.declared.wants.Want.TheVariants as want
use Rattle.jz_type_sizes.specs.Wants.{index_want, fits_int, fits_access, fits_known, fits_cell, known_size, known_truth, cell_size, sized_want, own_want, own_size, form_of_size, var_form}
use Rattle.jz_type_sizes.specs.Typings.{Typing, typing}
use Rattle.jz_type_sizes.specs.Sides.{left_form, left_wrong, left_typing, left_span, set_want}
use Rattle.jz_type_sizes.specs.Values.{value_typing, single}
use Rattle.jz_judgement.specs.Places.{Place, integer, truth, word, stated, index, unsized, Goes, IsWordOf}
use Rattle.jz_judgement.specs.HasType as judged
use Rattle.jz_judgement.specs.HasType.{Term, value, left, result, Says, OperandSays, left_known, is_known, HasType, Accesses, Operates}
use Rattle.jz_judgement.specs.Lefts as lefts
use Rattle.jz_judgement.specs.Lefts.{IsBool, Wants, Leaves, Holds, Own, Takes, IsSound, IsFlag, value_term}
use Rattle.jz_judgement.specs.Agreement.{want_of}
use Rattle.jz_judgement.proofs.Nothing.{none_not, number_goes, number_fits, same_self}
use Rattle.jz_type_names.proofs.Empty.{one_not, both, joined, passed, passes}
use Rattle.jz_judgement.proofs.Variables.{array_sized, sized_array, word_sized, sized_word}
use Rattle.jz_judgement.proofs.Agreeing.{Agrees, IsApart}
use Rattle.jz_judgement.proofs.Operations.{operation_agrees, operation_apart, if_true, if_false}
use Rattle.jz_judgement.proofs.Layers.{mapped, var_agrees, Cell, at_cell, cell_agrees, access_judged}
use Rattle.jz_judgement.proofs.Expressions.{judged_of}
use Rattle.jz_judgement.proofs.LeftKinds as sorts
use Rattle.jz_judgement.proofs.LeftKinds.{sort}

-- ---- a left side as an operand
skip_says : (at : Span) (z : Size) → Says (left (lval.Skip at)) z → ⊥
skip_says at z s = elim s [ ]

skip_agrees : (at : Span) → Agrees (left_typing (lval.Skip at)) (HasType (left (lval.Skip at))) (Says (left (lval.Skip at))) false
skip_agrees at = record {
  holds = λ p r. judged.nothing;
  right = λ p h. refl;
  says = λ z e. absurd (none_not z e);
  said = λ z s. absurd (skip_says at z s);
  inline = refl;
  one = λ y z h e. absurd (none_not y e);
  stated = λ y z h e. absurd (none_not y e);
  whole = λ h. refl;
  free = λ h. refl;
  no_word = λ i h. false≢true i;
  no_size = λ i. refl;
}

module _ (v : Var) where
  abbrev k : Known
  k = known_of v

  said_variable : (z : Size) → Says (left (lval.Var v)) z → known_size k ≡ Some z
  said_variable z (judged.set_variable w) = word_sized z k w

  abbrev with_test : Bool → Typing
  with_test b = record { form = var_form k; wrong = λ w. if b then [] else unless (fits_known k w) (out-Var v).span }

  goes_from : is_array k ≡ false → (p : Place) → HasType (left (lval.Var v)) p → Goes k p
  goes_from e p (judged.array a) = absurd (true≢false (sym a ∙ e))
  goes_from e p (judged.set_variable g) = g

  variable_agrees : (b : Bool) → is_array k ≡ b → Agrees (with_test b) (HasType (left (lval.Var v))) (Says (left (lval.Var v))) (is_inline_int k)
  variable_agrees true e = record {
    holds = λ p r. judged.array e;
    right = λ p h. refl;
    says = λ z n. judged.set_variable (sized_word z k n);
    said = λ z s. ap is_some (said_variable z s);
    inline = refl;
    one = λ y z h n. absurd (none_not y (sym (sorts.whole k e).size ∙ n));
    stated = λ y z h n. absurd (none_not y (sym (sorts.whole k e).size ∙ n));
    whole = λ h. (sorts.whole k e).size;
    free = λ h. (sorts.whole k e).size;
    no_word = λ i h. true≢false (sym i ∙ (sorts.whole k e).known);
    no_size = λ i. (sorts.whole k e).size;
  }
  variable_agrees false e = mapped (λ p g. judged.set_variable g) (goes_from e) (λ z n. judged.set_variable (sized_word z k n)) said_variable (var_agrees k (out-Var v).span)

cell_from : (v : Var) (i : Expr) (p : Place) → HasType (left (lval.Cell v i)) p → Cell (known_of v) (HasType (value i) index) p
cell_from v i p (judged.set_cell z g w j) = at_cell z g w j

cell_to : (v : Var) (i : Expr) (p : Place) → Cell (known_of v) (HasType (value i) index) p → HasType (left (lval.Cell v i)) p
cell_to v i p (at_cell z g w j) = judged.set_cell z g w j

said_cell : (v : Var) (i : Expr) (z : Size) → Says (left (lval.Cell v i)) z → cell_size (known_of v) ≡ Some z
said_cell v i z (judged.set_cell w) = array_sized z (known_of v) w

access_from : (a : Access) (p : Place) → HasType (left (lval.Store a)) p → Accesses (out-Access a) p
access_from a p (judged.set_access g) = g

said_access : (a : Access) (z : Size) → Says (left (lval.Store a)) z → (out-Access a).size ≡ Some z
said_access a z (judged.set_access e) = e

pub left_agrees : (d : Lval) → Agrees (left_typing d) (HasType (left d)) (Says (left d)) (left_known d)
left_agrees (lval.Skip at) = skip_agrees at
left_agrees (lval.Var v) = variable_agrees v (is_array (known_of v)) refl
left_agrees (lval.Cell v i) = mapped (cell_to v i) (cell_from v i) (λ z e. judged.set_cell (sized_array z (known_of v) e)) (said_cell v i) (cell_agrees (known_of v) (out-Var v).span (typing i) i (judged_of i).agrees)
left_agrees (lval.Store a) =
    mapped (λ p g. judged.set_access g) (access_from a) (λ z e. judged.set_access e) (said_access a) (access_judged (out-Access a) (typing (out-Access a).at) (judged_of (out-Access a).at).agrees).agrees

-- ---- values
updated_from : (o : BinOp) (d : Lval) (e : Expr) (p : Place) → HasType (result o d e) p → Operates o (left d) (value e) p
updated_from o d e p (judged.updated h) = h

updated_said : (o : BinOp) (d : Lval) (e : Expr) (z : Size) → Says (result o d e) z → OperandSays o (left d) (value e) z
updated_said o d e z (judged.updated s) = s

pub record Valued (t : Typing) (x : Term) : Type 0 where
  pub agrees : Agrees t (HasType x) (Says x) (is_known x)
  pub apart : IsApart t

pub valued : (o : Option BinOp) (d : Lval) (e : Expr) → Valued (value_typing o d e) (value_term o d e)
valued None d e = record { agrees = (judged_of e).agrees; apart = (judged_of e).apart }
valued (Some o) d e = record {
  agrees = mapped (λ p g. judged.updated g) (updated_from o d e) (λ z s. judged.updated s) (updated_said o d e) (operation_agrees o (left_span d) (left_typing d) (typing e) (left d) (value e) (left_agrees d) (judged_of e).agrees (judged_of e).apart);
  apart = operation_apart o (left_span d) (left_typing d) (typing e) (left d) (value e) (left_agrees d) (judged_of e).agrees (judged_of e).apart;
}

-- ---- what a left side wants, and whether it takes that
abbrev pick : Bool → Bool → Option Size → Form → Want
pick b i s f = if b then want.Truth else (if i then want.Int else (if is_some s then sized_want false s else own_want f))

picked : (k : Known) (f : Form) (b i : Bool) (s : Option Size) → known_truth k ≡ b → is_inline_int k ≡ i → known_size k ≡ s → set_want (var_form k) f ≡ pick b i s f
picked k f b i s p q r = ap (λ c. pick c (is_inline_int k) (known_size k) f) p ∙ ap (λ c. pick b c (known_size k) f) q ∙ ap (λ c. pick b i c f) r

pick_inline : (k : Known) (f : Form) → is_inline_int k ≡ true → set_want (var_form k) f ≡ want.Int
pick_inline k f i = picked k f false true (known_size k) (sorts.inline k i).bool i refl

pick_bool : (k : Known) (f : Form) → IsBool k → set_want (var_form k) f ≡ want.Truth
pick_bool k f b = picked k f true (is_inline_int k) (known_size k) (sorts.truthful k b).bool refl refl

pick_word : (k : Known) (f : Form) (z : Size) → IsWordOf z k → set_want (var_form k) f ≡ want.Word z
pick_word k f z w = picked k f false false (Some z) (sorts.word z k w).bool (sorts.word z k w).known (word_sized z k w)

pick_array : (k : Known) (f : Form) → is_array k ≡ true → set_want (var_form k) f ≡ own_want f
pick_array k f a = picked k f false false None (sorts.whole k a).bool (sorts.whole k a).known (sorts.whole k a).size

pick_number : (k : Known) (f : Form) → lefts.IsNumber k → is_inline_int k ≡ false → set_want (var_form k) f ≡ own_want f
pick_number k f n i = picked k f false false None (sorts.other k n).bool i (sorts.other k n).size

set_array : (v : Var) (w : Want) → is_array (known_of v) ≡ true → left_wrong (lval.Var v) w ≡ []
set_array v w a = if_true (is_array (known_of v)) [] (unless (fits_known (known_of v) w) (out-Var v).span) a

set_fits : (v : Var) (w : Want) → is_array (known_of v) ≡ false → fits_known (known_of v) w ≡ true → left_wrong (lval.Var v) w ≡ []
set_fits v w a f = if_false (is_array (known_of v)) [] (unless (fits_known (known_of v) w) (out-Var v).span) a ∙ passes (fits_known (known_of v) w) (out-Var v).span f

fits_set : (v : Var) (w : Want) → is_array (known_of v) ≡ false → left_wrong (lval.Var v) w ≡ [] → fits_known (known_of v) w ≡ true
fits_set v w a h = passed (fits_known (known_of v) w) (out-Var v).span (sym (if_false (is_array (known_of v)) [] (unless (fits_known (known_of v) w) (out-Var v).span) a) ∙ h)

pick_cell : (s : Option Size) (z : Size) (f : Form) → s ≡ Some z → set_want (form_of_size s) f ≡ want.Word z
pick_cell s z f e = ap (λ c. set_want (form_of_size c) f) e

cell_passes : (s : Option Size) (z : Size) → s ≡ Some z → fits_cell s (want.Word z) ≡ true
cell_passes s z e = ap (λ c. fits_cell c (want.Word z)) e ∙ same_self z

access_passes : (s : Option Size) (z : Size) → s ≡ Some z → fits_access s (want.Word z) ≡ true
access_passes s z e = ap (λ c. fits_access c (want.Word z)) e ∙ same_self z

-- what it wants, it takes, whatever the value
pub wanted : (d : Lval) (p : Place) (f : Form) → Wants d p → (set_want (left_form d) f ≡ want_of p) × (left_wrong d (want_of p) ≡ [])
wanted d p f (lefts.number {v = v} i) = (pick_inline (known_of v) f i, set_fits v want.Int (sorts.inline (known_of v) i).array (sorts.inline (known_of v) i).fits)
wanted d p f (lefts.bool {v = v} b) = (pick_bool (known_of v) f b, set_fits v want.Truth (sorts.truthful (known_of v) b).array (sorts.truthful (known_of v) b).fits)
wanted d p f (lefts.variable {v = v} {z = z} w) = (pick_word (known_of v) f z w, set_fits v (want.Word z) (sorts.word z (known_of v) w).array (sorts.word z (known_of v) w).fits)
wanted d p f (lefts.cell {v = v} {i = i} {z = z} a h) =
    let size = array_sized z (known_of v) a in (
      pick_cell (cell_size (known_of v)) z f size,
      joined (unless (fits_cell (cell_size (known_of v)) (want.Word z)) (out-Var v).span) ((typing i).wrong index_want) (passes (fits_cell (cell_size (known_of v)) (want.Word z)) (out-Var v).span (cell_passes (cell_size (known_of v)) z size)) ((judged_of i).agrees.right index h),
    )
wanted d p f (lefts.access {a = a} {z = z} e h) = (
  pick_cell a.size z f e,
  joined (unless (fits_access a.size (want.Word z)) a.span) ((typing (out-Access a).at).wrong index_want) (passes (fits_access a.size (want.Word z)) a.span (access_passes a.size z e)) ((judged_of (out-Access a).at).agrees.right index h),
)

-- where it leaves the type to the value
pub leaving : (d : Lval) (p : Place) (f : Form) → Leaves d p → (set_want (left_form d) f ≡ own_want f) × (left_wrong d (want_of p) ≡ [])
leaving d p f lefts.nothing = (refl, refl)
leaving d p f (lefts.array {v = v} a) = (pick_array (known_of v) f a, set_array v (want_of p) a)
leaving d p f (lefts.number {v = v} n i g) = (pick_number (known_of v) f n i, set_fits v (want_of p) (sorts.other (known_of v) n).array ((sorts.other (known_of v) n).fits (want_of p) ∙ number_fits p g))
leaving d p f (lefts.access {a = a} {z = z} e h) = (
  ap (λ c. set_want (form_of_size c) f) e,
  joined (unless (fits_access a.size (want.Word z)) a.span) ((typing (out-Access a).at).wrong index_want) (passes (fits_access a.size (want.Word z)) a.span (ap (λ c. fits_access c (want.Word z)) e)) ((judged_of (out-Access a).at).agrees.right index h),
)

-- one or the other, where nothing is wrong within it
pub data Chosen (d : Lval) (f : Form) : Type 0 where
  it_wants : (p : Place) → Wants d p → set_want (left_form d) f ≡ want_of p → Chosen d f
  it_leaves : set_want (left_form d) f ≡ own_want f → ((p : Place) → own_want f ≡ want_of p → Leaves d p) → Chosen d f

chosen_variable : (v : Var) (f : Form) → sorts.Sort (known_of v) → left_wrong (lval.Var v) (set_want (var_form (known_of v)) f) ≡ [] → Chosen (lval.Var v) f
chosen_variable v f (sorts.an_inline i) h = it_wants integer (lefts.number i) (pick_inline (known_of v) f i)
chosen_variable v f (sorts.a_bool b) h = it_wants truth (lefts.bool b) (pick_bool (known_of v) f b)
chosen_variable v f (sorts.a_word z w) h = it_wants (word z) (lefts.variable w) (pick_word (known_of v) f z w)
chosen_variable v f (sorts.an_array a) h = it_leaves (pick_array (known_of v) f a) (λ p e. lefts.array a)
chosen_variable v f (sorts.a_number n i) h =
    let fits = fits_set v (set_want (var_form (known_of v)) f) (sorts.other (known_of v) n).array h in
    let same = pick_number (known_of v) f n i in
    it_leaves same (λ p e. lefts.number n i (number_goes p (ap fits_int (sym e) ∙ ap fits_int (sym same) ∙ sym ((sorts.other (known_of v) n).fits (set_want (var_form (known_of v)) f)) ∙ fits)))

chosen_cell : (v : Var) (i : Expr) (f : Form) (s : Option Size) → cell_size (known_of v) ≡ s → unless (fits_cell s (set_want (form_of_size s) f)) (out-Var v).span ++ (typing i).wrong index_want ≡ [] → Chosen (lval.Cell v i) f
chosen_cell v i f None e h = absurd (one_not (out-Var v).span ((typing i).wrong index_want) h)
chosen_cell v i f (Some z) e h =
    it_wants (word z) (lefts.cell (sized_array z (known_of v) e) ((judged_of i).agrees.holds index (both (unless (fits_cell (Some z) (want.Word z)) (out-Var v).span) ((typing i).wrong index_want) h).1))
    (pick_cell (cell_size (known_of v)) z f e)

only_word : (p : Place) → fits_access None (want_of p) ≡ true → (z : Size) × (p ≡ word z)
only_word integer e = absurd (false≢true e)
only_word truth e = absurd (false≢true e)
only_word (word z) e = (z, refl)
only_word (stated x) e = absurd (false≢true e)
only_word unsized e = absurd (false≢true e)

chosen_access : (a : Access) (f : Form) (s : Option Size) → a.size ≡ s → unless (fits_access s (set_want (form_of_size s) f)) a.span ++ (typing (out-Access a).at).wrong index_want ≡ [] → Chosen (lval.Store a) f
chosen_access a f (Some z) e h =
    it_wants (word z) (lefts.access e ((judged_of (out-Access a).at).agrees.holds index (both (unless (fits_access (Some z) (want.Word z)) a.span) ((typing (out-Access a).at).wrong index_want) h).1))
    (pick_cell a.size z f e)
chosen_access a f None e h =
    let parts = both (unless (fits_access None (own_want f)) a.span) ((typing (out-Access a).at).wrong index_want) h in
    it_leaves (ap (λ c. set_want (form_of_size c) f) e)
    (λ p q. let only = only_word p (ap (λ w. fits_access None w) (sym q) ∙ passed (fits_access None (own_want f)) a.span parts.0) in
    subst (λ r. Leaves (lval.Store a) r) (sym only.1) (lefts.access e ((judged_of (out-Access a).at).agrees.holds index parts.1)))

pub chosen : (d : Lval) (f : Form) → left_wrong d (set_want (left_form d) f) ≡ [] → Chosen d f
chosen (lval.Skip at) f h = it_leaves refl (λ p e. lefts.nothing)
chosen (lval.Var v) f h = chosen_variable v f (sort (known_of v)) h
chosen (lval.Cell v i) f h = chosen_cell v i f (cell_size (known_of v)) refl h
chosen (lval.Store a) f h = chosen_access a f a.size refl h

-- ---- one left side and its value
module _ (t : Typing) (x : Term) (h : Valued t x) where
  own_in : (b : Bool) (s : Option Size) → t.form.truth ≡ b → t.form.size ≡ s → t.wrong (if b then want.Truth else own_size s) ≡ [] → (p : Place) × ((if b then want.Truth else own_size s) ≡ want_of p) × Own x p × HasType x p
  own_in true s e n w = (truth, refl, lefts.bool, h.agrees.holds truth w)
  own_in false (Some z) e n w = (word z, refl, lefts.sized (h.agrees.says z n), h.agrees.holds (word z) w)
  own_in false None e n w = (unsized, refl, lefts.number, h.agrees.holds unsized w)

  own_holds : t.wrong (own_want t.form) ≡ [] → (p : Place) × (own_want t.form ≡ want_of p) × Own x p × HasType x p
  own_holds w = own_in t.form.truth t.form.size refl refl w

  said_size : (z : Size) → Says x z → t.wrong (want.Word z) ≡ [] → t.form.size ≡ Some z
  said_size z s w = at_size t.form.size refl (h.agrees.said z s)
    where
      at_size : (c : Option Size) → t.form.size ≡ c → is_some c ≡ true → c ≡ Some z
      at_size None e b = absurd (false≢true b)
      at_size (Some y) e b = ap (λ (u : Size). Some u) (h.agrees.one y z w e)

  abbrev own_of : Bool → Option Size → Want
  own_of b s = if b then want.Truth else own_size s

  own_right : (p : Place) → Own x p → HasType x p → (own_want t.form ≡ want_of p) × (t.wrong (want_of p) ≡ [])
  own_right p lefts.bool g = let r = h.agrees.right truth g in (ap (λ b. own_of b t.form.size) (h.apart.bool r), r)
  own_right p (lefts.sized {z = z} s) g =
      let r = h.agrees.right (word z) g in
      (ap (λ b. own_of b t.form.size) (h.apart.number (word z) tt r) ∙ ap (λ s. own_of false s) (said_size z s r), r)
  own_right p lefts.number g =
      let r = h.agrees.right unsized g in
      (ap (λ b. own_of b t.form.size) (h.apart.number unsized tt r) ∙ ap (λ s. own_of false s) (h.agrees.free r), r)

  pub single_holds : (d : Lval) → single d t ≡ [] → Takes d x
  single_holds d e =
      let w = set_want (left_form d) t.form in
      let parts = both (left_wrong d w) (t.wrong w) e in
      at_choice parts.1 (chosen d t.form parts.0)
    where
      at_choice : t.wrong (set_want (left_form d) t.form) ≡ [] → Chosen d t.form → Takes d x
      at_choice n (it_wants p w e) = lefts.wanted p w (h.agrees.holds p (ap (λ u. t.wrong u) (sym e) ∙ n))
      at_choice n (it_leaves e l) =
          let own = own_holds (ap (λ u. t.wrong u) (sym e) ∙ n) in
          lefts.left own.0 (l own.0 own.1) own.2 own.3

  pub single_right : (d : Lval) → Takes d x → single d t ≡ []
  single_right d (lefts.wanted p w g) =
      let want = wanted d p t.form w in
      joined (left_wrong d (set_want (left_form d) t.form)) (t.wrong (set_want (left_form d) t.form)) (ap (λ u. left_wrong d u) want.0 ∙ want.1) (ap (λ u. t.wrong u) want.0 ∙ h.agrees.right p g)
  single_right d (lefts.left p l o g) =
      let free = leaving d p t.form l in
      let own = own_right p o g in
      joined (left_wrong d (set_want (left_form d) t.form)) (t.wrong (set_want (left_form d) t.form)) (ap (λ u. left_wrong d u) (free.0 ∙ own.0) ∙ free.1) (ap (λ u. t.wrong u) (free.0 ∙ own.0) ∙ own.1)
