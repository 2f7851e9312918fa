-- With more public before, more is public behind, and less is broken.
use Rattle.std.proofs.Common.{◌≡◌, Bool, true, false, List, [], ◌∷◌, Option, Some, None, if◌then◌else◌, refl, ap}
use Rattle.jz_tree.specs.Span.{Span}
use Rattle.jz_tree.specs.declared.expr.BinOp.{BinOp}
use Rattle.jz_tree.specs.Operators.{divides}
use Rattle.jz_meaning.specs.States.{same_key}
use Rattle.jz_meaning.specs.Values.{Ref, key_of}
use Rattle.jz_flow.specs.Sets.{Below}
use Rattle.jz_flow.specs.Soundness.{Monotone}
use Rattle.jz_terms.specs.Terms.{Term, num, truth, var, cell, load, neg, inv, cast, bin}
use Rattle.jz_labels.specs.Operations.{Left, nothing, scalar, element, bytes, Plain}
use Rattle.jz_labels.specs.Labels.{Publics, Secret, first, is_none, unless_public, secret_in, secret_in_each, gives_public, labelled, all_labelled, relabels, leaving, label_steps}
use Rattle.jz_labels.specs.Required.{Reason, Address, Divide, Branch, Breach, breach_at, begin_of, breach_in_place, breach_of, breach_in, breach_in_each, breach_in_division, breach_in_left, breach_in_lefts, breach_in_operation, breach_in_test, secret_written, into_public}

-- ---- none of two

pub none_left : {A : Type 0} (x y : Option A) → first x y ≡ None → x ≡ None
none_left None y e = refl
none_left (Some a) y e = absurd (cc e)

pub none_right : {A : Type 0} (x y : Option A) → first x y ≡ None → y ≡ None
none_right None y e = e
none_right (Some a) y e = absurd (cc e)

pub none_both : {A : Type 0} (x y : Option A) → x ≡ None → y ≡ None → first x y ≡ None
none_both None y e f = f
none_both (Some a) y e f = absurd (cc e)

-- of two pairs, each one none where the other is
pub none_each : {A B : Type 0} (x y : Option A) (z w : Option B) → (x ≡ None → z ≡ None) → (y ≡ None → w ≡ None) → first x y ≡ None → first z w ≡ None
none_each x y z w f g e = none_both z w (f (none_left x y e)) (g (none_right x y e))

pub is_none_so : {A : Type 0} (x : Option A) → is_none x ≡ true → x ≡ None
is_none_so None e = refl
is_none_so (Some a) e = absurd (cc e)

pub so_is_none : {A : Type 0} (x : Option A) → x ≡ None → is_none x ≡ true
so_is_none None e = refl
so_is_none (Some a) e = absurd (cc e)

shown_public : (z : Bool) (x : Ref) → unless_public z x ≡ None → z ≡ true
shown_public true x e = refl
shown_public false x e = absurd (cc e)

public_shown : (z : Bool) (x : Ref) → z ≡ true → unless_public z x ≡ None
public_shown true x e = refl
public_shown false x e = absurd (cc e)

no_breach_at : (at : Span) (why : Reason) (x : Option Secret) → breach_at at why x ≡ None → x ≡ None
no_breach_at at why None e = refl
no_breach_at at why (Some a) e = absurd (cc e)

at_no_secret : (at : Span) (why : Reason) (x : Option Secret) → x ≡ None → breach_at at why x ≡ None
at_no_secret at why None e = refl
at_no_secret at why (Some a) e = absurd (cc e)

pub breach_less : (at : Span) (why : Reason) (x y : Option Secret) → (x ≡ None → y ≡ None) → breach_at at why x ≡ None → breach_at at why y ≡ None
breach_less at why x y f e = at_no_secret at why y (f (no_breach_at at why x e))

-- ---- from the public ones a and s to b and t

module _ (a b s t : Publics) (h : Below a b) (k : Below s t) where
  pub secret_less : (e : Term) → secret_in a s e ≡ None → secret_in b t e ≡ None
  secret_less (num i at) e = refl
  secret_less (truth c at) e = refl
  secret_less (var x) e = public_shown (t (key_of x)) x (k (key_of x) (shown_public (s (key_of x)) x e))
  secret_less (cell x i) e =
      none_each (unless_public (a (key_of x)) x) (secret_in a s i) (unless_public (b (key_of x)) x) (secret_in b t i)
      (λ f. public_shown (b (key_of x)) x (h (key_of x) (shown_public (a (key_of x)) x f))) (secret_less i) e
  secret_less (load p i) e = absurd (cc e)
  secret_less (neg i at) e = secret_less i e
  secret_less (inv i at) e = secret_less i e
  secret_less (cast z sign i at) e = secret_less i e
  secret_less (bin op i j at) e =
      none_each (secret_in a s i) (secret_in a s j) (secret_in b t i) (secret_in b t j) (secret_less i) (secret_less j) e

  pub each_less : (es : List Term) → secret_in_each a s es ≡ None → secret_in_each b t es ≡ None
  each_less [] e = refl
  each_less (i ∷ es) e =
      none_each (secret_in a s i) (secret_in_each a s es) (secret_in b t i) (secret_in_each b t es) (secret_less i) (each_less es) e

  pub gives_more : (o : Plain) → gives_public a s o ≡ true → gives_public b t o ≡ true
  gives_more o e = so_is_none (secret_in_each b t o.reads) (each_less o.reads (is_none_so (secret_in_each a s o.reads) e))

  place_less : (at : Span) (i : Term) → breach_in_place a s at i ≡ None → breach_in_place b t at i ≡ None
  place_less at i e = breach_less at Address (secret_in a s i) (secret_in b t i) (secret_less i) e

  by_test : (c : Bool) (x y : Option Breach) → (x ≡ None → y ≡ None) → (if c then x else None) ≡ None → (if c then y else None) ≡ None
  by_test true x y f e = f e
  by_test false x y f e = refl

  of_less : (op : BinOp) (i j : Term) (at : Span) → breach_of a s op i j at ≡ None → breach_of b t op i j at ≡ None
  of_less op i j at e =
      by_test (divides op) (breach_at at Divide (first (secret_in a s i) (secret_in a s j))) (breach_at at Divide (first (secret_in b t i) (secret_in b t j)))
      (breach_less at Divide (first (secret_in a s i) (secret_in a s j)) (first (secret_in b t i) (secret_in b t j))
      (none_each (secret_in a s i) (secret_in a s j) (secret_in b t i) (secret_in b t j) (secret_less i) (secret_less j))) e

  pub term_less : (e : Term) → breach_in a s e ≡ None → breach_in b t e ≡ None
  term_less (num i at) e = refl
  term_less (truth c at) e = refl
  term_less (var x) e = refl
  term_less (cell x i) e =
      none_each (breach_in a s i) (breach_in_place a s x.span i) (breach_in b t i) (breach_in_place b t x.span i) (term_less i) (place_less x.span i) e
  term_less (load p i) e =
      none_each (breach_in a s i) (breach_in_place a s p.span i) (breach_in b t i) (breach_in_place b t p.span i) (term_less i) (place_less p.span i) e
  term_less (neg i at) e = term_less i e
  term_less (inv i at) e = term_less i e
  term_less (cast z sign i at) e = term_less i e
  term_less (bin op i j at) e =
      none_each (breach_in a s i) (first (breach_in a s j) (breach_of a s op i j at)) (breach_in b t i) (first (breach_in b t j) (breach_of b t op i j at)) (term_less i)
      (none_each (breach_in a s j) (breach_of a s op i j at) (breach_in b t j) (breach_of b t op i j at) (term_less j) (of_less op i j at)) e

  pub terms_less : (es : List Term) → breach_in_each a s es ≡ None → breach_in_each b t es ≡ None
  terms_less [] e = refl
  terms_less (i ∷ es) e =
      none_each (breach_in a s i) (breach_in_each a s es) (breach_in b t i) (breach_in_each b t es) (term_less i) (terms_less es) e

  pub division_less : (d : Option Span) (es : List Term) → breach_in_division a s d es ≡ None → breach_in_division b t d es ≡ None
  division_less None es e = refl
  division_less (Some at) es e = breach_less at Divide (secret_in_each a s es) (secret_in_each b t es) (each_less es) e

  pub left_less : (d : Left) → breach_in_left a s d ≡ None → breach_in_left b t d ≡ None
  left_less nothing e = refl
  left_less (scalar x) e = refl
  left_less (element x i) e =
      none_each (breach_in a s i) (breach_in_place a s x.span i) (breach_in b t i) (breach_in_place b t x.span i) (term_less i) (place_less x.span i) e
  left_less (bytes p i) e =
      none_each (breach_in a s i) (breach_in_place a s p.span i) (breach_in b t i) (breach_in_place b t p.span i) (term_less i) (place_less p.span i) e

  pub test_less : (e : Term) → breach_in_test a e s ≡ None → breach_in_test b e t ≡ None
  test_less i e =
      none_each (breach_in a s i) (breach_at (begin_of i) Branch (secret_in a s i)) (breach_in b t i) (breach_at (begin_of i) Branch (secret_in b t i)) (term_less i)
      (breach_less (begin_of i) Branch (secret_in a s i) (secret_in b t i) (secret_less i)) e

-- ---- labels behind

with_more : (c z w : Bool) (u v : Bool) → (z ≡ true → w ≡ true) → (u ≡ true → v ≡ true) → (if c then z else u) ≡ true → (if c then w else v) ≡ true
with_more true z w u v f g e = f e
with_more false z w u v f g e = g e

pub labelled_more : (z w : Bool) (s t : Publics) → (z ≡ true → w ≡ true) → Below s t → (d : Left) → Below (labelled z d s) (labelled w d t)
labelled_more z w s t f k nothing = k
labelled_more z w s t f k (scalar x) = λ q e. with_more (same_key q (key_of x)) z w (s q) (t q) f (k q) e
labelled_more z w s t f k (element x i) = k
labelled_more z w s t f k (bytes p i) = k

pub all_more : (z w : Bool) (s t : Publics) → (z ≡ true → w ≡ true) → Below s t → (ds : List Left) → Below (all_labelled z ds s) (all_labelled w ds t)
all_more z w s t f k [] = k
all_more z w s t f k (d ∷ ds) = all_more z w (labelled z d s) (labelled w d t) f (labelled_more z w s t f k d) ds

pub lefts_less : (a b : Publics) → Below a b → (z w : Bool) → (z ≡ true → w ≡ true) → (ds : List Left) (s t : Publics) → Below s t → breach_in_lefts a z ds s ≡ None → breach_in_lefts b w ds t ≡ None
lefts_less a b h z w f [] s t k e = refl
lefts_less a b h z w f (d ∷ ds) s t k e =
    none_each (breach_in_left a s d) (breach_in_lefts a z ds (labelled z d s)) (breach_in_left b t d) (breach_in_lefts b w ds (labelled w d t)) (left_less a b s t h k d)
    (lefts_less a b h z w f ds (labelled z d s) (labelled w d t) (labelled_more z w s t f k d)) e

pub operation_less : (a b s t : Publics) → Below a b → Below s t → (o : Plain) → breach_in_operation a o s ≡ None → breach_in_operation b o t ≡ None
operation_less a b s t h k o e =
    let z = gives_public a s o in
    let w = gives_public b t o in
    none_each (breach_in_each a s o.reads) (first (breach_in_division a s o.division o.reads) (breach_in_lefts a z o.to s)) (breach_in_each b t o.reads) (first (breach_in_division b t o.division o.reads) (breach_in_lefts b w o.to t)) (terms_less a b s t h k o.reads)
    (none_each (breach_in_division a s o.division o.reads) (breach_in_lefts a z o.to s) (breach_in_division b t o.division o.reads) (breach_in_lefts b w o.to t) (division_less a b s t h k o.division o.reads)
    (lefts_less a b h z w (gives_more a b s t h k o) o.to s t k)) e

pub leaving_more : (s t : Publics) → Below s t → (c : Term) → Below (leaving c s) (leaving c t)
leaving_more s t k (num i at) = k
leaving_more s t k (truth true at) = λ q e. refl
leaving_more s t k (truth false at) = k
leaving_more s t k (var x) = k
leaving_more s t k (cell x i) = k
leaving_more s t k (load p i) = k
leaving_more s t k (neg i at) = k
leaving_more s t k (inv i at) = k
leaving_more s t k (cast z sign i at) = k
leaving_more s t k (bin op i j at) = k

pub relabels_more : (a b s t : Publics) → Below a b → Below s t → (o : Plain) → Below (relabels a o s) (relabels b o t)
relabels_more a b s t h k o = all_more (gives_public a s o) (gives_public b t o) s t (gives_more a b s t h k o) k o.to

-- a secret is written to a public array: less often with more public scalars
pub written_less : (a s t : Publics) → Below s t → (o : Plain) → secret_written a o s ≡ None → secret_written a o t ≡ None
written_less a s t k o e = by (gives_public a s o) (gives_public a t o) (gives_more a a s t (λ f i. i) k o) e
  where
    by : (z w : Bool) → (z ≡ true → w ≡ true) → (if z then None else into_public a o.to) ≡ None → (if w then None else into_public a o.to) ≡ None
    by true w f e = ap (λ x. if x then None else into_public a o.to) (f refl)
    by false true f e = refl
    by false false f e = e

module _ {O T : Type 0} (plain : O → Plain) (term : T → Term) where
  pub labels_monotone : (a : Publics) → Monotone (label_steps plain term a)
  labels_monotone a = record {
    does = λ o s t k. relabels_more a a s t (λ f i. i) k (plain o);
    quiets = λ o s t k. k;
    tests = λ c z s t k. k;
    leaves = λ c h g s t l k. leaving_more s t k (term c);
  }
