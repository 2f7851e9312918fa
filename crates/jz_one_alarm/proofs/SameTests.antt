-- What holds behind a test, by the set of the constants.
use Rattle.std.proofs.Common.{◌≡◌, ℕ, ◌+◌, ◌-◌, List, Bool, true, false, refl, ap, ap₂, ◌∙◌, if◌then◌else◌}
use Rattle.std.specs.Prelude.{◌==◌, nat_le, not, ◌&&◌, ◌||◌}
use Rattle.std.specs.Option.{option_or}
use Rattle.std.proofs.Math.Path.{fun_ext}
use Rattle.x64_insn.specs.Size.{Size}
use Rattle.x64_insn.specs.Words.{residue}
use Rattle.jz_tree.specs.declared.expr.BinOp.{BinOp}
use Rattle.jz_tree.specs.declared.expr.BinOp.TheVariants as o
use Rattle.jz_meaning.specs.Statements.{Operation, Condition}
use Rattle.jz_flow.specs.Flow.{Steps}
use Rattle.jz_terms.specs.Terms.{Term, num, truth, var, cell, load, neg, inv, cast, bin, term_of, size_in}
use Rattle.jz_facts.specs.Facts.{Fact, Set, Cell, AtLeast, AtMost, Under, Is, Multiple, Facts, Start, Region, Given, is_among, multiples}
use Rattle.jz_facts.specs.Intervals.{size_or_64, interval}
use Rattle.jz_facts.specs.Holding.{does, quieted}
use Rattle.jz_facts.specs.Tests.{is_var, at_most, at_least, under, under_what_is, is_the_same, less, less_or_same, same, not_zero, by_true, opposite, adds, tested, leaving, leaves}
use Rattle.jz_facts.specs.Along.{fact_steps}
use Rattle.jz_one_alarm.proofs.SameNumbers.{AreAlike}
use Rattle.jz_one_alarm.proofs.SameIntervals.{given, interval_same, multiple_same}
use Rattle.jz_one_alarm.proofs.SameSteps.{does_same}

module _ (cs ds : List ℕ) (P : List Start) (R : List Region) (E : AreAlike cs ds) where
  abbrev G : Given
  G = given cs P R

  abbrev H : Given
  H = given ds P R

  -- ---- what is added

  most_same : (a : Term) (n : ℕ) (f : Fact) → at_most G a n f ≡ at_most H a n f
  most_same a n (AtMost v c) = ap (λ b. is_var a v && (b && nat_le n c)) (E.among_so c)
  most_same a n (Set v) = refl
  most_same a n (Cell v k) = refl
  most_same a n (AtLeast v c) = refl
  most_same a n (Under v x) = refl
  most_same a n (Is v x) = refl
  most_same a n (Multiple v m) = refl

  least_same : (a : Term) (n : ℕ) (f : Fact) → at_least G a n f ≡ at_least H a n f
  least_same a n (AtLeast v c) = ap (λ b. is_var a v && (b && nat_le c n)) (E.among_so c)
  least_same a n (Set v) = refl
  least_same a n (Cell v k) = refl
  least_same a n (AtMost v c) = refl
  least_same a n (Under v x) = refl
  least_same a n (Is v x) = refl
  least_same a n (Multiple v m) = refl

  module _ (s : Facts) where
    below_same : (a b : Term) (f : Fact) → under G s a b f ≡ under H s a b f
    below_same a b (Under v x) = refl
    below_same a b (Set v) = refl
    below_same a b (Cell v k) = refl
    below_same a b (AtLeast v c) = refl
    below_same a b (AtMost v c) = refl
    below_same a b (Is v x) = refl
    below_same a b (Multiple v m) = refl

    below_it_same : (a b : Term) (f : Fact) → under_what_is G s a b f ≡ under_what_is H s a b f
    below_it_same a b (Under v x) = refl
    below_it_same a b (Set v) = refl
    below_it_same a b (Cell v k) = refl
    below_it_same a b (AtLeast v c) = refl
    below_it_same a b (AtMost v c) = refl
    below_it_same a b (Is v x) = refl
    below_it_same a b (Multiple v m) = refl

    it_same : (a b : Term) (f : Fact) → is_the_same G s a b f ≡ is_the_same H s a b f
    it_same a b (Is v x) = refl
    it_same a b (Multiple v m) = ap (λ c. is_var a v && (is_among m multiples && c)) (multiple_same cs ds P R E s b m)
    it_same a b (Set v) = refl
    it_same a b (Cell v k) = refl
    it_same a b (AtLeast v c) = refl
    it_same a b (AtMost v c) = refl
    it_same a b (Under v x) = refl

    either : {a b c d : Bool} → a ≡ c → b ≡ d → (a || b) ≡ (c || d)
    either p q = ap₂ (λ x y. x || y) p q

    less_same : (z : Size) (a b : Term) (f : Fact) → less G s z a b f ≡ less H s z a b f
    less_same z a b f =
        either (ap (λ j. at_most G a (j.hi - 1) f) (interval_same cs ds P R E s z b) ∙ most_same a ((interval H s z b).hi - 1) f)
        (either (ap (λ i. at_least G b (i.lo + 1) f) (interval_same cs ds P R E s z a) ∙ least_same b ((interval H s z a).lo + 1) f)
        (either (below_same a b f) (below_it_same a b f)))

    less_or_same_same : (z : Size) (a b : Term) (f : Fact) → less_or_same G s z a b f ≡ less_or_same H s z a b f
    less_or_same_same z a b f =
        either (ap (λ j. at_most G a j.hi f) (interval_same cs ds P R E s z b) ∙ most_same a (interval H s z b).hi f)
        (either (ap (λ i. at_least G b i.lo f) (interval_same cs ds P R E s z a) ∙ least_same b (interval H s z a).lo f)
        (below_same a b f))

    same_same : (z : Size) (a b : Term) (f : Fact) → same G s z a b f ≡ same H s z a b f
    same_same z a b f = either (either (less_or_same_same z a b f) (less_or_same_same z b a f)) (either (it_same a b f) (it_same b a f))

    zero_same : (z : Size) (a t : Term) (f : Fact) → not_zero G z a t f ≡ not_zero H z a t f
    zero_same z a (num i at) f = by (residue z i == 0)
      where
        by : (c : Bool) → (if c then at_least G a 1 else (λ f. false)) f ≡ (if c then at_least H a 1 else (λ f. false)) f
        by true = least_same a 1 f
        by false = refl
    zero_same z a (truth b at) f = refl
    zero_same z a (var x) f = refl
    zero_same z a (cell x i) f = refl
    zero_same z a (load p b) f = refl
    zero_same z a (neg b at) f = refl
    zero_same z a (inv b at) f = refl
    zero_same z a (cast y sign b at) f = refl
    zero_same z a (bin op b c at) f = refl

    true_same : (op : BinOp) (z : Size) (a b : Term) (f : Fact) → by_true G op s z a b f ≡ by_true H op s z a b f
    true_same o.Lt z a b f = less_same z a b f
    true_same o.Le z a b f = less_or_same_same z a b f
    true_same o.Gt z a b f = less_same z b a f
    true_same o.Ge z a b f = less_or_same_same z b a f
    true_same o.Eq z a b f = same_same z a b f
    true_same o.Ne z a b f = zero_same z a b f
    true_same o.OrElse z a b f = refl
    true_same o.AndThen z a b f = refl
    true_same o.Or z a b f = refl
    true_same o.Xor z a b f = refl
    true_same o.And z a b f = refl
    true_same o.LtS z a b f = refl
    true_same o.LeS z a b f = refl
    true_same o.GtS z a b f = refl
    true_same o.GeS z a b f = refl
    true_same o.Shl z a b f = refl
    true_same o.Shr z a b f = refl
    true_same o.Sar z a b f = refl
    true_same o.Rol z a b f = refl
    true_same o.Ror z a b f = refl
    true_same o.Add z a b f = refl
    true_same o.Sub z a b f = refl
    true_same o.Mul z a b f = refl
    true_same o.Div z a b f = refl
    true_same o.Rem z a b f = refl
    true_same o.DivS z a b f = refl
    true_same o.RemS z a b f = refl

  opposite_same : (op : BinOp) → opposite G op ≡ opposite H op
  opposite_same o.Lt = refl
  opposite_same o.Le = refl
  opposite_same o.Gt = refl
  opposite_same o.Ge = refl
  opposite_same o.Eq = refl
  opposite_same o.Ne = refl
  opposite_same o.OrElse = refl
  opposite_same o.AndThen = refl
  opposite_same o.Or = refl
  opposite_same o.Xor = refl
  opposite_same o.And = refl
  opposite_same o.LtS = refl
  opposite_same o.LeS = refl
  opposite_same o.GtS = refl
  opposite_same o.GeS = refl
  opposite_same o.Shl = refl
  opposite_same o.Shr = refl
  opposite_same o.Sar = refl
  opposite_same o.Rol = refl
  opposite_same o.Ror = refl
  opposite_same o.Add = refl
  opposite_same o.Sub = refl
  opposite_same o.Mul = refl
  opposite_same o.Div = refl
  opposite_same o.Rem = refl
  opposite_same o.DivS = refl
  opposite_same o.RemS = refl

  -- ---- tests

  adds_same : (s : Facts) (t : Term) (z : Bool) (f : Fact) → adds G s t z f ≡ adds H s t z f
  adds_same s (inv a at) z f = adds_same s a (not z) f
  adds_same s (bin op a b at) z f =
      let y = size_or_64 (option_or (size_in a) (size_in b)) in
      ap (λ p. by_true G (if z then op else p) s y a b f) (opposite_same op) ∙ true_same s (if z then op else opposite H op) y a b f
  adds_same s (num i at) z f = refl
  adds_same s (truth b at) z f = refl
  adds_same s (var x) z f = refl
  adds_same s (cell x i) z f = refl
  adds_same s (load p a) z f = refl
  adds_same s (neg a at) z f = refl
  adds_same s (cast y sign a at) z f = refl

  tested_same : (c : Condition) (z : Bool) (s : Facts) → tested G c z s ≡ tested H c z s
  tested_same c z s = fun_ext (λ f. ap (λ b. s f || b) (adds_same s (term_of c.cond) z f))

  leaving_same : (c : Condition) (t : Term) (h s : Facts) → leaving G c t h s ≡ leaving H c t h s
  leaving_same c (truth true at) h s = refl
  leaving_same c (truth false at) h s = tested_same c false s
  leaving_same c (num i at) h s = tested_same c false s
  leaving_same c (var x) h s = tested_same c false s
  leaving_same c (cell x i) h s = tested_same c false s
  leaving_same c (load p a) h s = tested_same c false s
  leaving_same c (neg a at) h s = tested_same c false s
  leaving_same c (inv a at) h s = tested_same c false s
  leaving_same c (cast y sign a at) h s = tested_same c false s
  leaving_same c (bin op a b at) h s = tested_same c false s

  -- ---- all of them

  abbrev With : (Operation → Facts → Facts) → (Condition → Bool → Facts → Facts) → (Condition → Facts → Facts → Facts) → Steps Operation Condition Fact
  With d t l = record { does = d; quiets = quieted; tests = t; leaves = l }

  pub steps_same : fact_steps G ≡ fact_steps H
  steps_same =
      ap (λ d. With d (tested G) (leaves G)) (fun_ext (λ o. fun_ext (λ s. does_same cs ds P R E o s)))
      ∙ ap (λ t. With (does H) t (leaves G)) (fun_ext (λ c. fun_ext (λ z. fun_ext (λ s. tested_same c z s))))
      ∙ ap (λ l. With (does H) (tested H) l) (fun_ext (λ c. fun_ext (λ h. fun_ext (λ s. leaving_same c (term_of c.cond) h s))))
