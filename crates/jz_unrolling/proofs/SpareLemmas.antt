-- What is known and not set is known behind each piece.
use Rattle.std.proofs.Common.{◌≡◌, ℕ, List, [], ◌∷◌, Option, Some, None, Bool, true, false, refl, ap, sym, ◌∙◌}
use Rattle.std.specs.Prelude.{ℤ, ◌==◌, ◌&&◌, if◌then◌else◌}
use Rattle.std.specs.Str.{bytes_eq}
use Rattle.jz_tree.specs.Span.{Span}
use Rattle.jz_tree.specs.declared.expr.BinOp.{BinOp}
use Rattle.jz_tree.specs.declared.expr.Expr.{Expr}
use Rattle.jz_tree.specs.declared.expr.Var.{Var}
use Rattle.jz_tree.specs.declared.stmt.Lval.TheVariants as lval
use Rattle.jz_integers.specs.Integers.{KnownNumbers}
use Rattle.jz_meaning.specs.Trees.{done, op, quiet, choose, loop, each}
use Rattle.jz_meaning.specs.Statements.{assign, unset, Condition, Counter, Block}
use Rattle.jz_meaning.specs.Values.{ref_of}
use Rattle.jz_unroll.specs.Values.{InlineNames, is_inline_var}
use Rattle.jz_unroll.specs.Unrolling.{with_number, number_of, all_unknown, KnowsLess}
use Rattle.jz_unrolling_values.proofs.NumberLemmas.{same_number}
use Rattle.jz_unrolling.specs.Forgetting.{forgotten}
use Rattle.jz_unrolling.specs.Steps.{Spares}
use Rattle.jz_unrolling.proofs.ForgetLemmas.{forgotten_less, forgotten_both, again}

pub less_then : (a b c : KnownNumbers) → KnowsLess a b → KnowsLess b c → KnowsLess a c
less_then a b c f g = λ n d i q. g n d i (f n d i q)

module _ (names : InlineNames) where
  -- where all stays
  pub spares_same : (f : Block → Block) (e : KnownNumbers) → Spares names f e e
  spares_same f e = forgotten_less names (f done) e

  pub spares_both : (f g : Block → Block) (a b c : KnownNumbers) → ((t : Block) (e : KnownNumbers) → forgotten names (f t) e ≡ forgotten names t (forgotten names (f done) e)) → Spares names f a b → Spares names g b c → Spares names (λ t. f (g t)) a c
  spares_both f g a b c splits p q = λ n d i r.
      q n d i (forgotten_both names (g done) (forgotten names (f done) a) b p n d i (ap (λ k. k n d) (sym (splits (g done) a)) ∙ r))

  set_less : (t : Bool) (x y : Option ℤ) (i : ℤ) → (if t then None else x) ≡ Some i → (if t then y else x) ≡ Some i
  set_less true x y i q = absurd cc
  set_less false x y i q = q

  -- of what sets one inline variable
  pub spares_set : (v : Var) (o : Option BinOp) (x : Expr) (c : Option Expr) (at : Span) (e : KnownNumbers) (m : Option ℤ) → is_inline_var names v ≡ true → Spares names (op (assign (lval.Var v ∷ []) o x c at)) e (with_number e v m)
  spares_set v o x c at e m inline = λ n d i q.
      set_less (bytes_eq (ref_of v).name n && (ref_of v).copy == d) (e n d) m i
      (ap (λ (z : Bool). (if z then with_number e v None else e) n d) (sym inline) ∙ q)

  pub spares_mark : (vs : List Var) (e : KnownNumbers) → Spares names (quiet (unset vs)) e (all_unknown e vs)
  spares_mark vs e = λ n d i q. q

  -- ---- branches and loops

  -- of an arm by itself
  pub spares_arm : (p : Condition) (z : Bool) (a b : Block) (f : Block → Block) (e e1 : KnownNumbers) → f done ≡ (if z then a else b) → Spares names f e e1 → Spares names (choose p a b) e e1
  spares_arm p true a b f e e1 is h = λ n d i q. h n d i (ap (λ t. forgotten names t e n d) is ∙ forgotten_less names b (forgotten names a e) n d i q)
  spares_arm p false a b f e e1 is h = λ n d i q. h n d i (ap (λ t. forgotten names t e n d) is ∙ forgotten_both names b (forgotten names a e) e (forgotten_less names a e) n d i q)

  pub spares_once : (h0 : Bool) (p : Condition) (b : Block) (f : Block → Block) (e e1 : KnownNumbers) → Spares names f e e1 → Spares names (loop h0 (f done) p b) e e1
  spares_once h0 p b f e e1 h = λ n d i q. h n d i (forgotten_less names b (forgotten names (f done) e) n d i q)

  -- what both arms set is forgotten
  pub arms_less : (f g : Block → Block) (e ea eb : KnownNumbers) → Spares names f e ea → Spares names g e eb → KnowsLess (forgotten names (g done) (forgotten names (f done) e)) ea × KnowsLess (forgotten names (g done) (forgotten names (f done) e)) eb
  arms_less f g e ea eb p q = (
    λ n d i r. p n d i (forgotten_less names (g done) (forgotten names (f done) e) n d i r),
    λ n d i r. q n d i (forgotten_both names (g done) (forgotten names (f done) e) e (forgotten_less names (f done) e) n d i r),
  )

  -- what a loop sets is forgotten before it
  pub loop_less : (f g : Block → Block) (e eq eb : KnownNumbers) → Spares names f (forgotten names (g done) (forgotten names (f done) e)) eq → Spares names g eq eb
      → KnowsLess (forgotten names (g done) (forgotten names (f done) e)) e
      × KnowsLess (forgotten names (g done) (forgotten names (f done) e)) eb
      × KnowsLess (forgotten names (g done) (forgotten names (f done) e)) eq
  loop_less f g e eq eb p q = (first, turn, head)
    where
      e1 : KnownNumbers
      e1 = forgotten names (f done) e

      first : KnowsLess (forgotten names (g done) (forgotten names (f done) e)) e
      first = λ n d i r. forgotten_less names (f done) e n d i (forgotten_less names (g done) (forgotten names (f done) e) n d i r)

      head : KnowsLess (forgotten names (g done) (forgotten names (f done) e)) eq
      head = λ n d i r.
          p n d i
          (again names (f done) e (forgotten names (g done) (forgotten names (f done) e)) n d i
          (forgotten_less names (g done) (forgotten names (f done) e) n d i r) r)

      turn : KnowsLess (forgotten names (g done) (forgotten names (f done) e)) eb
      turn = λ n d i r. q n d i (again names (g done) (forgotten names (f done) e) eq n d i r (head n d i r))

  -- ---- rounds

  -- but for the counter all that a body does not set stays
  pub record SparesRounds (f : Counter) (b : Block) (e now : KnownNumbers) : Type 0 where
    pub others :
        (n : List ℕ) (d : ℕ) (i : ℤ) → (bytes_eq (ref_of f.counter).name n && (ref_of f.counter).copy == d) ≡ false → forgotten names b e n d ≡ Some i
        → now n d ≡ Some i

  pub no_rounds_spare : (f : Counter) (b : Block) (e : KnownNumbers) → SparesRounds f b e e
  no_rounds_spare f b e = record { others = λ n d i other q. forgotten_less names b e n d i q }

  pub round_spares : (f : Counter) (g : Block → Block) (e now next : KnownNumbers) (i : ℤ) → SparesRounds f (g done) e now → Spares names g (with_number now f.counter (Some i)) next → SparesRounds f (g done) e next
  round_spares f g e now next i h s = record {
    others = λ n d j other q.
        let there : with_number now f.counter (Some i) n d ≡ Some j = ap (λ (z : Bool). if z then Some i else now n d) other ∙ h.others n d j other q in
        s n d j (again names (g done) e (with_number now f.counter (Some i)) n d j q there);
  }

  pub spares_rounds : (f : Counter) (b : Block) (e now : KnownNumbers) → SparesRounds f b e now → Spares names (each f b) e (with_number now f.counter (number_of e f.counter))
  spares_rounds f b e now h = λ n d i q. by_test n d i q (bytes_eq (ref_of f.counter).name n && (ref_of f.counter).copy == d) refl
    where
      by_test : (n : List ℕ) (d : ℕ) (i : ℤ) → forgotten names b e n d ≡ Some i → (t : Bool) → (bytes_eq (ref_of f.counter).name n && (ref_of f.counter).copy == d) ≡ t → with_number now f.counter (number_of e f.counter) n d ≡ Some i
      by_test n d i q true p =
          ap (λ (z : Bool). if z then number_of e f.counter else now n d) p ∙ same_number e (ref_of f.counter).name n (ref_of f.counter).copy d p ∙ forgotten_less names b e n d i q
      by_test n d i q false p = ap (λ (z : Bool). if z then number_of e f.counter else now n d) p ∙ h.others n d i p q
