-- What is told of a variable, by what is known.
use Rattle.std.proofs.Common.{◌≡◌, ℕ, Option, Some, None, Bool, true, false, refl, ap, sym, ◌∙◌, arith, rules}
use Rattle.std.specs.Prelude.{ℤ, ◌==◌, nat_le, ◌&&◌, ◌||◌}
use Rattle.std.proofs.Math.Path.{fun_ext}
use Rattle.x64_insn.specs.Size.{Size}
use Rattle.jz_meaning.specs.States.{Key}
use Rattle.x64_insn.specs.Words.{residue}
use Rattle.jz_tree.specs.Span.{Span}
use Rattle.jz_tree.specs.declared.expr.Expr.{Expr}
use Rattle.jz_tree.specs.declared.expr.Expr.TheVariants as expr
use Rattle.jz_terms.proofs.TermForms.{term_num}
use Rattle.jz_terms.specs.Terms.{Term, num, term_of}
use Rattle.jz_facts.specs.Facts.{Fact, Set, Cell, AtLeast, AtMost, Under, Is, Multiple, Facts, is_among, multiples}
use Rattle.jz_facts.specs.Intervals.{interval, multiple}
use Rattle.jz_facts.specs.Holding.{copied}
use Rattle.jz_facts.specs.Tests.{◌and◌}
use Rattle.jz_fact_readings.specs.declared.times.Times.{Times}
use Rattle.jz_fact_sets.specs.declared.given.Given.{Given}
use Rattle.jz_fact_sets.specs.declared.knowledge.Knowledge.{Knowledge}
use Rattle.jz_fact_sets.specs.Knowing.{nothing}
use Rattle.jz_fact_sets.specs.Kept.{given_of, is_at_least, is_at_most, is_times, is_named}
use Rattle.jz_fact_sets.specs.Renewing.{own}
use Rattle.jz_fact_sets.proofs.NamedBits.{none_named}
use Rattle.jz_fact_steps.specs.Telling.{join}
use Rattle.jz_fact_steps.proofs.Joining.{join_says}
use Rattle.jz_test_facts.specs.Comparing.{below_of, above_of, none, told_below, told_above, told_same, told_other}

and_none : (a : Bool) → (a && false) ≡ false
and_none true = refl
and_none false = refl

pub none_is : (g : Given) → own g nothing ≡ none
none_is g = fun_ext one
  where
    one : (f : Fact) → own g nothing f ≡ none f
    one (Set v) = refl
    one (Cell a j) = refl
    one (AtLeast v c) = and_none (is_among c g.constants)
    one (AtMost v c) = and_none (is_among c g.constants)
    one (Under v x) = none_named g.params x
    one (Is v x) = none_named g.params x
    one (Multiple v m) = and_none (is_among m multiples)

module _ (g : Given) (s : Facts) (z : Size) (t : Term) (strict : Bool) where
  pub below_is : (o : Option ℕ) (under : ℕ)
      → ((c : ℕ) → (is_among c g.constants && is_at_most o c) ≡ (is_among c g.constants && nat_le (below_of strict (interval (given_of g) s z t).hi) c))
      → ((x : Key) → is_named g.params under x ≡ (copied s t (λ y. Under y x) || (strict && copied s t (λ y. Is y x))))
      → own g (record { set = false; least = None; most = o; times = None; under = under; is = 0 }) ≡ told_below (given_of g) s z strict t
  below_is o under most named = fun_ext one
    where
      one : (f : Fact) → own g (record { set = false; least = None; most = o; times = None; under = under; is = 0 }) f ≡ told_below (given_of g) s z strict t f
      one (Set v) = refl
      one (Cell a j) = refl
      one (AtLeast v c) = and_none (is_among c g.constants)
      one (AtMost v c) = most c
      one (Under v x) = named x
      one (Is v x) = none_named g.params x
      one (Multiple v m) = and_none (is_among m multiples)

  pub above_is : (o : Option ℕ) → ((c : ℕ) → (is_among c g.constants && is_at_least o c) ≡ (is_among c g.constants && nat_le c (above_of strict (interval (given_of g) s z t).lo)))
      → own g (record { set = false; least = o; most = None; times = None; under = 0; is = 0 }) ≡ told_above (given_of g) s z strict t
  above_is o least = fun_ext one
    where
      one : (f : Fact) → own g (record { set = false; least = o; most = None; times = None; under = 0; is = 0 }) f ≡ told_above (given_of g) s z strict t f
      one (Set v) = refl
      one (Cell a j) = refl
      one (AtLeast v c) = least c
      one (AtMost v c) = and_none (is_among c g.constants)
      one (Under v x) = none_named g.params x
      one (Is v x) = none_named g.params x
      one (Multiple v m) = and_none (is_among m multiples)

module _ (g : Given) (s : Facts) (t : Term) where
  pub same_is : (o : Option Times) (is : ℕ)
      → ((m : ℕ) → (is_among m multiples && is_times o m) ≡ (is_among m multiples && multiple (given_of g) s t m))
      → ((x : Key) → is_named g.params is x ≡ copied s t (λ y. Is y x))
      → own g (record { set = false; least = None; most = None; times = o; under = 0; is = is }) ≡ told_same (given_of g) s t
  same_is o is times named = fun_ext one
    where
      one : (f : Fact) → own g (record { set = false; least = None; most = None; times = o; under = 0; is = is }) f ≡ told_same (given_of g) s t f
      one (Set v) = refl
      one (Cell a j) = refl
      one (AtLeast v c) = and_none (is_among c g.constants)
      one (AtMost v c) = and_none (is_among c g.constants)
      one (Under v x) = none_named g.params x
      one (Is v x) = named x
      one (Multiple v m) = times m

pub join_is : (g : Given) (a b : Knowledge) (x y : Facts) → own g a ≡ x → own g b ≡ y → own g (join a b) ≡ (x and y)
join_is g a b x y e h = fun_ext (λ f. join_says g a b f ∙ ap (λ k. k f || own g b f) e ∙ ap (λ k. x f || k f) h)

module _ (g : Given) (z : Size) (n : ℤ) (at : Span) where
  pub other_zero : residue z n ≡ 0 → own g (record { set = false; least = Some 1; most = None; times = None; under = 0; is = 0 }) ≡ told_other (given_of g) z (num n at)
  other_zero e = fun_ext one
    where
      one : (f : Fact) → own g (record { set = false; least = Some 1; most = None; times = None; under = 0; is = 0 }) f ≡ told_other (given_of g) z (num n at) f
      one (Set v) = refl
      one (Cell a j) = refl
      one (AtLeast v c) = sym (ap (λ r. (r == 0) && (is_among c g.constants && nat_le c 1)) e)
      one (AtMost v c) = and_none (is_among c g.constants)
      one (Under v x) = none_named g.params x
      one (Is v x) = none_named g.params x
      one (Multiple v m) = and_none (is_among m multiples)

  pub other_nonzero : (residue z n ≡ 0 → ⊥) → own g nothing ≡ told_other (given_of g) z (num n at)
  other_nonzero e = none_is g ∙ fun_ext one
    where
      no_zero : (r : ℕ) → (r ≡ 0 → ⊥) → (r == 0) ≡ false
      no_zero r h = by (r == 0) refl
        where
          by : (b : Bool) → (r == 0) ≡ b → b ≡ false
          by true k = let i : r ≡ 0 = grind (arith, rules, k) in absurd (h i)
          by false k = refl

      one : (f : Fact) → none f ≡ told_other (given_of g) z (num n at) f
      one (Set v) = refl
      one (Cell a j) = refl
      one (AtLeast v c) = sym (ap (λ b. b && (is_among c g.constants && nat_le c 1)) (no_zero (residue z n) e))
      one (AtMost v c) = refl
      one (Under v x) = refl
      one (Is v x) = refl
      one (Multiple v m) = refl

pub from_number : (g : Given) (z : Size) (e : Expr) (n m : ℤ) (at : Span) (x : Facts) → e ≡ expr.Num n at → m ≡ n → ((a : Span) → x ≡ told_other (given_of g) z (num m a)) → x ≡ told_other (given_of g) z (term_of e)
from_number g z e n m at x h k f = f at ∙ ap (λ i. told_other (given_of g) z (num i at)) k ∙ sym (ap (told_other (given_of g) z) (term_num e n at h))
