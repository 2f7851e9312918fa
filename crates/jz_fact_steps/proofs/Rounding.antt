-- The nearest constant says as much as a number.
use Rattle.std.proofs.Common.{◌≡◌, ◌⊎◌, inl, inr, ℕ, ◌-◌, ◌≤◌, ◌<◌, ◌^◌, List, [], ◌∷◌, Bool, true, false, refl, ap, sym, ◌∙◌, subst, arith, rules, min, max, if◌then◌else◌}
use Rattle.std.specs.Prelude.{◌==◌, nat_le, ◌&&◌, ◌||◌}
use Rattle.jz_facts.specs.Facts.{is_among, greatest, least}
use Rattle.jz_intervals.proofs.Nearest.{greatest_within, least_within}

either : (a b : Bool) → (a || b) ≡ true → (a ≡ true) ⊎ (b ≡ true)
either true b e = inl refl
either false b e = inr e

number_same : (c d : ℕ) → (c == d) ≡ true → c ≡ d
number_same c d e = grind (arith, rules, e)

yes_le : (a b : ℕ) → a ≤ b → nat_le a b ≡ true
yes_le a b h = grind (arith, rules, h)

le_yes : (a b : ℕ) → nat_le a b ≡ true → a ≤ b
le_yes a b e = grind (arith, rules, e)

le_no : (a b : ℕ) → nat_le a b ≡ false → b < a
le_no a b e = grind (arith, rules, e)

no_le : (a b : ℕ) → b < a → nat_le a b ≡ false
no_le a b h = grind (arith, rules, h)

module _ (p : ℕ → Bool) (c : ℕ) (q : p c ≡ true) where
  no_greater : (ds : List ℕ) → is_among c ds ≡ true → c ≤ greatest p ds
  no_greater [] e = absurd (cc e)
  no_greater (d ∷ ds) e = by (either (c == d) (is_among c ds) e) (λ k. no_greater ds k)
    where
      one : (t : Bool) → t ≡ true → d ≤ (if t then max d (greatest p ds) else greatest p ds)
      one true h = omega arith
      one false h = absurd (cc h)

      more : (t : Bool) → c ≤ greatest p ds → c ≤ (if t then max d (greatest p ds) else greatest p ds)
      more true h = omega (arith, h)
      more false h = h

      by : ((c == d) ≡ true) ⊎ (is_among c ds ≡ true) → (is_among c ds ≡ true → c ≤ greatest p ds) → c ≤ (if p d then max d (greatest p ds) else greatest p ds)
      by (inl h) k = let i : c ≡ d = number_same c d h in subst (λ n. n ≤ (if p d then max d (greatest p ds) else greatest p ds)) (sym i) (one (p d) (ap p (sym i) ∙ q))
      by (inr h) k = more (p d) (k h)

  no_less : (m : ℕ) (ds : List ℕ) → is_among c ds ≡ true → least p m ds ≤ c
  no_less m [] e = absurd (cc e)
  no_less m (d ∷ ds) e = by (either (c == d) (is_among c ds) e) (λ k. no_less m ds k)
    where
      one : (t : Bool) → t ≡ true → (if t then min d (least p m ds) else least p m ds) ≤ d
      one true h = omega arith
      one false h = absurd (cc h)

      more : (t : Bool) → least p m ds ≤ c → (if t then min d (least p m ds) else least p m ds) ≤ c
      more true h = omega (arith, h)
      more false h = h

      by : ((c == d) ≡ true) ⊎ (is_among c ds ≡ true) → (is_among c ds ≡ true → least p m ds ≤ c) → (if p d then min d (least p m ds) else least p m ds) ≤ c
      by (inl h) k = let i : c ≡ d = number_same c d h in subst (λ n. (if p d then min d (least p m ds) else least p m ds) ≤ n) (sym i) (one (p d) (ap p (sym i) ∙ q))
      by (inr h) k = more (p d) (k h)

-- the greatest constant that is not above n
pub low : (cs : List ℕ) (n m c : ℕ) → m ≡ greatest (λ d. nat_le d n) cs → (is_among c cs && nat_le c m) ≡ (is_among c cs && nat_le c n)
low cs n m c e = by (is_among c cs) refl
  where
    within : m ≤ n
    within = subst (λ k. k ≤ n) (sym e) (greatest_within (λ d. nat_le d n) cs n (λ j b q. le_yes _ n q))

    same : is_among c cs ≡ true → (t : Bool) → nat_le c n ≡ t → nat_le c m ≡ t
    same a true h = let k : c ≤ m = subst (λ z. c ≤ z) (sym e) (no_greater (λ d. nat_le d n) c h cs a) in yes_le c m k
    same a false h = let k = le_no c n h in let l : m < c = omega (arith, k, within) in no_le c m l

    by : (a : Bool) → is_among c cs ≡ a → (a && nat_le c m) ≡ (a && nat_le c n)
    by true a = same a (nat_le c n) refl
    by false a = refl

-- the least constant that is not below n
pub high : (cs : List ℕ) (n m c : ℕ) → n ≤ 2 ^ 64 - 1 → m ≡ least (λ d. nat_le n d) (2 ^ 64 - 1) cs → (is_among c cs && nat_le m c) ≡ (is_among c cs && nat_le n c)
high cs n m c small e = by (is_among c cs) refl
  where
    within : n ≤ m
    within = subst (λ k. n ≤ k) (sym e) (least_within (λ d. nat_le n d) (2 ^ 64 - 1) cs n small (λ j b q. le_yes n _ q))

    same : is_among c cs ≡ true → (t : Bool) → nat_le n c ≡ t → nat_le m c ≡ t
    same a true h = let k : m ≤ c = subst (λ z. z ≤ c) (sym e) (no_less (λ d. nat_le n d) c h (2 ^ 64 - 1) cs a) in yes_le m c k
    same a false h = let k = le_no n c h in let l : c < m = omega (arith, k, within) in no_le m c l

    by : (a : Bool) → is_among c cs ≡ a → (a && nat_le m c) ≡ (a && nat_le n c)
    by true a = same a (nat_le n c) refl
    by false a = refl
