-- Of two lists with one set of numbers the greatest and the least are the same.
use Rattle.std.proofs.Common.{◌≡◌, ℕ, ◌≤◌, List, [], ◌∷◌, Bool, true, false, refl, ap, sym, ◌∙◌, arith, rules, min, max, if◌then◌else◌}
use Rattle.std.specs.Prelude.{◌==◌, ◌||◌}
use Rattle.jz_facts.specs.Facts.{is_among, greatest, least}

-- each number of the first list is one of the second
abbrev Within : List ℕ → List ℕ → Type 0
Within cs ds = (c : ℕ) → is_among c cs ≡ true → is_among c ds ≡ true

in_head : (c : ℕ) (cs : List ℕ) → is_among c (c ∷ cs) ≡ true
in_head c cs = ap (λ b. b || is_among c cs) (itself c)
  where
    itself : (c : ℕ) → (c == c) ≡ true
    itself c = grind (arith, rules)

in_rest : (c k : ℕ) (cs : List ℕ) → is_among c cs ≡ true → is_among c (k ∷ cs) ≡ true
in_rest c k cs h = by (c == k)
  where
    by : (b : Bool) → (b || is_among c cs) ≡ true
    by true = refl
    by false = h

rest_within : (c : ℕ) (cs ds : List ℕ) → Within (c ∷ cs) ds → Within cs ds
rest_within c cs ds w k h = w k (in_rest k c cs h)

module _ (p : ℕ → Bool) where
  -- ---- the greatest

  is_below : (c : ℕ) (ds : List ℕ) → is_among c ds ≡ true → p c ≡ true → c ≤ greatest p ds
  is_below c [] h q = absurd (cc h)
  is_below c (d ∷ ds) h q = by (λ k. is_below c ds k q) (c == d) refl (p d) refl h
    where
      equal : (c == d) ≡ true → c ≡ d
      equal e = grind (arith, rules, e)

      by : (is_among c ds ≡ true → c ≤ greatest p ds) → (b : Bool) → (c == d) ≡ b → (a : Bool) → p d ≡ a → (b || is_among c ds) ≡ true → c ≤ (if a then max d (greatest p ds) else greatest p ds)
      by g true e true f k = let x : c ≡ d = equal e in omega (arith, x)
      by g true e false f k = absurd (cc (sym (ap p (equal e) ∙ f) ∙ q))
      by g false e true f k = let x : c ≤ greatest p ds = g k in omega (arith, x)
      by g false e false f k = g k

  greatest_within : (cs ds : List ℕ) → Within cs ds → greatest p cs ≤ greatest p ds
  greatest_within [] ds w = omega arith
  greatest_within (c ∷ cs) ds w = by (p c) refl (greatest_within cs ds (rest_within c cs ds w))
    where
      by : (a : Bool) → p c ≡ a → greatest p cs ≤ greatest p ds → (if a then max c (greatest p cs) else greatest p cs) ≤ greatest p ds
      by true e l = let x : c ≤ greatest p ds = is_below c ds (w c (in_head c cs)) e in omega (arith, x, l)
      by false e l = l

  -- ---- the least

  module _ (m : ℕ) where
    at_most_m : (ds : List ℕ) → least p m ds ≤ m
    at_most_m [] = omega arith
    at_most_m (d ∷ ds) = by (p d) (at_most_m ds)
      where
        by : (a : Bool) → least p m ds ≤ m → (if a then min d (least p m ds) else least p m ds) ≤ m
        by true l = omega (arith, l)
        by false l = l

    is_above : (c : ℕ) (ds : List ℕ) → is_among c ds ≡ true → p c ≡ true → least p m ds ≤ c
    is_above c [] h q = absurd (cc h)
    is_above c (d ∷ ds) h q = by (λ k. is_above c ds k q) (c == d) refl (p d) refl h
      where
        equal : (c == d) ≡ true → c ≡ d
        equal e = grind (arith, rules, e)

        by : (is_among c ds ≡ true → least p m ds ≤ c) → (b : Bool) → (c == d) ≡ b → (a : Bool) → p d ≡ a → (b || is_among c ds) ≡ true → (if a then min d (least p m ds) else least p m ds) ≤ c
        by g true e true f k = let x : c ≡ d = equal e in omega (arith, x)
        by g true e false f k = absurd (cc (sym (ap p (equal e) ∙ f) ∙ q))
        by g false e true f k = let x : least p m ds ≤ c = g k in omega (arith, x)
        by g false e false f k = g k

    least_within : (cs ds : List ℕ) → Within cs ds → least p m ds ≤ least p m cs
    least_within [] ds w = at_most_m ds
    least_within (c ∷ cs) ds w = by (p c) refl (least_within cs ds (rest_within c cs ds w))
      where
        by : (a : Bool) → p c ≡ a → least p m ds ≤ least p m cs → least p m ds ≤ (if a then min c (least p m cs) else least p m cs)
        by true e l = let x : least p m ds ≤ c = is_above c ds (w c (in_head c cs)) e in omega (arith, x, l)
        by false e l = l

-- the same of both lists
pub record AreAlike (cs ds : List ℕ) : Type 0 where
  pub among_so : (c : ℕ) → is_among c cs ≡ is_among c ds
  pub greatest_so : (p : ℕ → Bool) → greatest p cs ≡ greatest p ds
  pub least_so : (p : ℕ → Bool) (m : ℕ) → least p m cs ≡ least p m ds

both_ways : (a b : ℕ) → a ≤ b → b ≤ a → a ≡ b
both_ways a b l m = omega (arith, l, m)

pub alike : (cs ds : List ℕ) → ((c : ℕ) → is_among c cs ≡ is_among c ds) → AreAlike cs ds
alike cs ds e = record {
  among_so = e;
  greatest_so = λ p. both_ways (greatest p cs) (greatest p ds) (greatest_within p cs ds there) (greatest_within p ds cs back);
  least_so = λ p m. both_ways (least p m cs) (least p m ds) (least_within p m ds cs back) (least_within p m cs ds there);
}
  where
    there : Within cs ds
    there c h = sym (e c) ∙ h

    back : Within ds cs
    back c h = e c ∙ h
