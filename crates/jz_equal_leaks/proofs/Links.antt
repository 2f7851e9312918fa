-- What comes out of an expression in states that agree: the same where all that is read is public.
use Rattle.std.proofs.Common.{◌≡◌, Bool, true, false, List, [], ◌∷◌, ◌++◌, Option, Some, None, refl, sym, ap, subst, ◌∙◌}
use Rattle.jz_tree.specs.Span.{Span}
use Rattle.x64_insn.specs.Size.{Size}
use Rattle.jz_tree.specs.declared.expr.BinOp.{BinOp}
use Rattle.jz_tree.specs.declared.expr.Expr.{Expr}
use Rattle.jz_meaning.specs.Attempts.{Evaluation, and_then, defined}
use Rattle.jz_meaning.specs.States.{Value, word, boolean, integer, Key, State}
use Rattle.jz_meaning.specs.Operators.{word_of, word_at}
use Rattle.jz_meaning.specs.Values.{Meaning, evaluated}
use Rattle.jz_meaning.specs.Assignments.{word_in, truth as truth_of, bool_in}
use Rattle.jz_terms.specs.Terms.{Term, bin, means, term_of}
use Rattle.jz_terms.proofs.Bridge.{term_so}
use Rattle.jz_labels.specs.Labels.{Publics, first, secret_in, secret_in_each}
use Rattle.jz_labels.specs.Required.{breach_in, breach_of, breach_in_each}
use Rattle.jz_equal_leaks.specs.TwoRuns.{BothGive}
use Rattle.jz_equal_leaks.specs.Fixed.{IsFixed, AreFixed}
use Rattle.jz_equal_leaks.specs.Agreeing.{Agree}
use Rattle.jz_equal_leaks.proofs.Parts.{Any, less_give, equal_give, then_give, Silent, silent_give, silent_defined}
use Rattle.jz_equal_leaks.proofs.Values.{first_none, term_same, term_gives}

-- the same, where that is public
abbrev pub Linked : {A : Type 0} → Bool → A → A → Type 0
Linked z x y = z ≡ true → x ≡ y

pub any_linked : {A : Type 0} (x y : A) → Any x y → Linked false x y
any_linked x y h e = absurd (cc e)

pub silent_linked : {A B : Type 0} (z : Bool) (f : A → Evaluation B) (x y : A) → ((v : A) → Silent (f v)) → Linked z x y → BothGive (Linked z) (f x) (f y)
silent_linked {B} true f x y h l = equal_give (Linked {A = B} true) (f x) (f y) (ap f (l refl)) (λ v e. refl)
silent_linked {B} false f x y h l = less_give (Any {A = B}) (Linked {A = B} false) (f x) (f y) any_linked (silent_give (f x) (f y) (h x) (h y))

-- the same of two and of three that are handed on
pub two_linked : {A B C : Type 0} (z : Bool) (f : A → B → Evaluation C) (x u : A) (y v : B) → ((p : A) (q : B) → Silent (f p q)) → Linked z x u → Linked z y v → BothGive (Linked z) (f x y) (f u v)
two_linked {A} {B} {C} true f x u y v h l k = equal_give (Linked {A = C} true) (f x y) (f u v) (ap (λ (p : A). f p y) (l refl) ∙ ap (f u) (k refl)) (λ w e. refl)
two_linked {A} {B} {C} false f x u y v h l k = less_give (Any {A = C}) (Linked {A = C} false) (f x y) (f u v) any_linked (silent_give (f x y) (f u v) (h x y) (h u v))

pub three_linked : {A B C D : Type 0} (z : Bool) (f : A → B → C → Evaluation D) (x u : A) (y v : B) (i j : C) → ((p : A) (q : B) (r : C) → Silent (f p q r)) → Linked z x u → Linked z y v → Linked z i j → BothGive (Linked z) (f x y i) (f u v j)
three_linked {A} {B} {C} {D} true f x u y v i j h l k m = equal_give (Linked {A = D} true) (f x y i) (f u v j) (ap (λ (p : A). f p y i) (l refl) ∙ ap (λ (p : B). f u p i) (k refl) ∙ ap (f u v) (m refl)) (λ w e. refl)
three_linked {A} {B} {C} {D} false f x u y v i j h l k m = less_give (Any {A = D}) (Linked {A = D} false) (f x y i) (f u v j) any_linked (silent_give (f x y i) (f u v j) (h x y i) (h u v j))

pub linked_then : {A B : Type 0} (z : Bool) (e d : Evaluation A) (f : A → Evaluation B) → BothGive (Linked z) e d → ((v : A) → Silent (f v)) → BothGive (Linked z) (and_then e f) (and_then d f)
linked_then {A} {B} z e d f l h = then_give (Linked {A = A} z) (Linked {A = B} z) e d f f l (λ x y r. silent_linked z f x y h r)

pub silent_word : (at : Span) (s : Size) (v : Value) → Silent (word_at at s v)
silent_word at s v = silent_defined at (word_of s v)

pub silent_truth : (at : Span) (v : Value) → Silent (truth_of at v)
silent_truth at (boolean c) = refl
silent_truth at (word s a) = tt
silent_truth at (integer i) = tt

module _ (in_frame : Key → Bool) (arrays s : Publics) (z : Bool) where
  -- what it asks is public, and where z says so all that it reads
  abbrev pub Given : Term → Type 0
  Given t = IsFixed in_frame t × (breach_in arrays s t ≡ None) × (z ≡ true → secret_in arrays s t ≡ None)

  abbrev pub AllGiven : List Term → Type 0
  AllGiven [] = Unit {0}
  AllGiven (t ∷ ts) = Given t × AllGiven ts

  pub all_given : (ts : List Term) → AreFixed in_frame ts → breach_in_each arrays s ts ≡ None → (z ≡ true → secret_in_each arrays s ts ≡ None) → AllGiven ts
  all_given [] f n p = tt
  all_given (t ∷ ts) f n p =
      let e = first_none (breach_in arrays s t) (breach_in_each arrays s ts) n in (
        (f.0, e.0, λ h. (first_none (secret_in arrays s t) (secret_in_each arrays s ts) (p h)).0),
        all_given ts f.1 e.1 (λ h. (first_none (secret_in arrays s t) (secret_in_each arrays s ts) (p h)).1),
      )

  pub given_left : (ts us : List Term) → AllGiven (ts ++ us) → AllGiven ts
  given_left [] us h = tt
  given_left (t ∷ ts) us h = (h.0, given_left ts us h.1)

  pub given_right : (ts us : List Term) → AllGiven (ts ++ us) → AllGiven us
  given_right [] us h = h
  given_right (t ∷ ts) us h = given_right ts us h.1

  pub left_given : (op : BinOp) (t u : Term) (at : Span) → Given (bin op t u at) → Given t
  left_given op t u at h = (
    h.0.0,
    (first_none (breach_in arrays s t) (first (breach_in arrays s u) (breach_of arrays s op t u at)) h.1).0,
    λ e. (first_none (secret_in arrays s t) (secret_in arrays s u) (h.2 e)).0,
  )

  pub right_given : (op : BinOp) (t u : Term) (at : Span) → Given (bin op t u at) → Given u
  right_given op t u at h = (
    h.0.1,
    (first_none (breach_in arrays s u) (breach_of arrays s op t u at) (first_none (breach_in arrays s t) (first (breach_in arrays s u) (breach_of arrays s op t u at)) h.1).1).0,
    λ e. (first_none (secret_in arrays s t) (secret_in arrays s u) (h.2 e)).1,
  )

by_term : (e : Expr) (w : Option Size) (st : State) → evaluated e w st ≡ (means (term_of e)).run w st
by_term e w st = ap (λ (m : Meaning). m.run w st) (term_so e)

module _ (in_frame : Key → Bool) (arrays s : Publics) (z : Bool) (a b : State) (g : Agree in_frame arrays s a b) where
  term_links : (q : Bool) (t : Term) → Given in_frame arrays s q t → (w : Option Size) → BothGive (Linked {A = Value} q) ((means t).run w a) ((means t).run w b)
  term_links true t h w = equal_give (Linked {A = Value} true) ((means t).run w a) ((means t).run w b) (term_same in_frame arrays s a b g t h.0 (h.2 refl) w) (λ v e. refl)
  term_links false t h w = less_give (Any {A = Value}) (Linked {A = Value} false) ((means t).run w a) ((means t).run w b) any_linked (term_gives in_frame arrays s a b g t h.0 h.1 w)

  pub links : (e : Expr) → Given in_frame arrays s z (term_of e) → (w : Option Size) → BothGive (Linked {A = Value} z) (evaluated e w a) (evaluated e w b)
  links e h w =
      subst (λ (x : Evaluation Value). BothGive (Linked {A = Value} z) x (evaluated e w b)) (sym (by_term e w a))
      (subst (λ (x : Evaluation Value). BothGive (Linked {A = Value} z) ((means (term_of e)).run w a) x) (sym (by_term e w b)) (term_links z (term_of e) h w))

  pub word_links : (at : Span) (y : Size) (e : Expr) → Given in_frame arrays s z (term_of e) → BothGive (Linked z) (word_in at y e a) (word_in at y e b)
  word_links at y e h = linked_then z (evaluated e (Some y) a) (evaluated e (Some y) b) (word_at at y) (links e h (Some y)) (silent_word at y)

  pub bool_links : (at : Span) (e : Expr) → Given in_frame arrays s z (term_of e) → BothGive (Linked z) (bool_in at e a) (bool_in at e b)
  bool_links at e h = linked_then z (evaluated e None a) (evaluated e None b) (truth_of at) (links e h None) (silent_truth at)

-- what is public is the same
pub expr_same : (in_frame : Key → Bool) (arrays s : Publics) (a b : State) → Agree in_frame arrays s a b → (e : Expr) → IsFixed in_frame (term_of e) → secret_in arrays s (term_of e) ≡ None → (w : Option Size) → evaluated e w a ≡ evaluated e w b
expr_same in_frame arrays s a b g e f h w = by_term e w a ∙ term_same in_frame arrays s a b g (term_of e) f h w ∙ sym (by_term e w b)
