-- Intervals and multiples by the set of the constants.
use Rattle.std.proofs.Common.{◌≡◌, ℕ, List, [], ◌∷◌, true, false, refl, ap, ap₂, ◌∙◌, min, if◌then◌else◌}
use Rattle.std.specs.Prelude.{◌%◌, ◌-◌, ◌==◌, ◌&&◌, ◌||◌}
use Rattle.x64_insn.specs.Size.{Size}
use Rattle.jz_meaning.specs.States.{Key}
use Rattle.jz_meaning.specs.Values.{key_of}
use Rattle.jz_terms.specs.Terms.{Term, num, truth, var, cell, load, neg, inv, cast, bin, size_in}
use Rattle.jz_intervals.specs.declared.interval.Interval.{Interval}
use Rattle.jz_intervals.specs.Intervals.{greatest_word, fitted}
use Rattle.jz_facts.specs.Facts.{AtLeast, AtMost, Under, Multiple, Facts, Start, Region, Given, least, hi_of, multiples}
use Rattle.jz_facts.specs.Intervals.{size_or_64, of_operation, of_multiples, under_most, interval, has_multiple, multiple, is_multiple}
use Rattle.jz_one_alarm.proofs.SameNumbers.{AreAlike}

abbrev pub given : List ℕ → List Start → List Region → Given
given cs P R = record { consts = cs; params = P; regions = R }

module _ (cs ds : List ℕ) (P : List Start) (R : List Region) (E : AreAlike cs ds) (s : Facts) where
  abbrev G : Given
  G = given cs P R

  abbrev H : Given
  H = given ds P R

  under_same : (v : Key) (m : ℕ) (ps : List Start) → under_most G s v m ps ≡ under_most H s v m ps
  under_same v m [] = refl
  under_same v m (p ∷ ps) = ap (λ n. if s (Under v p.key) then min (hi_of p - 1) n else n) (under_same v m ps)

  abbrev Of : Size → ℕ → ℕ → Interval
  Of z a b = record { lo = min a (greatest_word z); hi = b }

  pub interval_same : (z : Size) (t : Term) → interval G s z t ≡ interval H s z t
  interval_same z (num i at) = refl
  interval_same z (truth b at) = refl
  interval_same z (var x) =
      ap₂ (Of z) (E.greatest_so (λ c. s (AtLeast (key_of x) c)))
      (ap (λ m. under_most G s (key_of x) m P) (E.least_so (λ c. s (AtMost (key_of x) c)) (greatest_word z)) ∙ under_same (key_of x) (least (λ c. s (AtMost (key_of x) c)) (greatest_word z) ds) P)
  interval_same z (cell x i) = refl
  interval_same z (load p a) = refl
  interval_same z (neg a at) = refl
  interval_same z (inv a at) = refl
  interval_same z (cast y true a at) = refl
  interval_same z (cast y false a at) = ap (fitted z) (interval_same (size_or_64 (size_in a)) a)
  interval_same z (bin op a b at) = ap₂ (λ i j. of_operation z op i j b) (interval_same z a) (interval_same z b)

  has_same : (v : Key) (m : ℕ) (ks : List ℕ) → has_multiple G s v m ks ≡ has_multiple H s v m ks
  has_same v m [] = refl
  has_same v m (k ∷ ks) = ap (λ b. (s (Multiple v k) && (k % m == 0)) || b) (has_same v m ks)

  pub multiple_same : (t : Term) (m : ℕ) → multiple G s t m ≡ multiple H s t m
  multiple_same (num i at) m = refl
  multiple_same (truth b at) m = refl
  multiple_same (var x) m = has_same (key_of x) m multiples
  multiple_same (cell x i) m = refl
  multiple_same (load p a) m = refl
  multiple_same (neg a at) m = refl
  multiple_same (inv a at) m = refl
  multiple_same (cast y sign a at) m = refl
  multiple_same (bin op a b at) m = ap₂ (λ x y. of_multiples op x y a b m) (multiple_same a m) (multiple_same b m)

  pub is_multiple_same : (t : Term) (m : ℕ) → is_multiple G s t m ≡ is_multiple H s t m
  is_multiple_same t m = ap (λ b. (m == 1) || b) (multiple_same t m)
