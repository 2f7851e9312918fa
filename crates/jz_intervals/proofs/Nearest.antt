-- The nearest of ascending numbers, by what a search in them finds.
use Rattle.std.proofs.Common.{◌≡◌, ℕ, zero, suc, ◌<◌, ◌≤◌, List, [], ◌∷◌, length, Bool, true, false, true≢false, refl, sym, arith, rules, min, max, if◌then◌else◌}
use Rattle.std.specs.Prelude.{nat_le, get_or}
use Rattle.jz_intervals.specs.Constants.{greatest, least}

module _ (p : ℕ → Bool) where
  -- ---- the greatest

  pub greatest_within : (cs : List ℕ) (n : ℕ) → ((k : ℕ) → k < length cs → p (get_or cs k 0) ≡ true → get_or cs k 0 ≤ n) → greatest p cs ≤ n
  greatest_within [] n h = omega arith
  greatest_within (c ∷ cs) n h = by (p c) refl (greatest_within cs n (λ k l e. h (suc k) (omega (arith, l)) e))
    where
      by : (a : Bool) → p c ≡ a → greatest p cs ≤ n → (if a then max c (greatest p cs) else greatest p cs) ≤ n
      by true e l = let m = h 0 (omega arith) e in omega (arith, l, m)
      by false e l = l

  pub greatest_holds : (cs : List ℕ) (k : ℕ) → k < length cs → p (get_or cs k 0) ≡ true → get_or cs k 0 ≤ greatest p cs
  greatest_holds [] k l e = absurd (omega (arith, l))
  greatest_holds (c ∷ cs) zero l e = by (p c) e
    where
      by : (a : Bool) → a ≡ true → c ≤ (if a then max c (greatest p cs) else greatest p cs)
      by true e = omega arith
      by false e = absurd (true≢false (sym e))
  greatest_holds (c ∷ cs) (suc k) l e = by (p c) (greatest_holds cs k (omega (arith, l)) e)
    where
      by : (a : Bool) → get_or cs k 0 ≤ greatest p cs → get_or cs k 0 ≤ (if a then max c (greatest p cs) else greatest p cs)
      by true m = omega (arith, m)
      by false m = m

  -- ---- the least

  pub least_within : (m : ℕ) (cs : List ℕ) (n : ℕ) → n ≤ m → ((k : ℕ) → k < length cs → p (get_or cs k 0) ≡ true → n ≤ get_or cs k 0) → n ≤ least p m cs
  least_within m [] n l h = l
  least_within m (c ∷ cs) n l h = by (p c) refl (least_within m cs n l (λ k l e. h (suc k) (omega (arith, l)) e))
    where
      by : (a : Bool) → p c ≡ a → n ≤ least p m cs → n ≤ (if a then min c (least p m cs) else least p m cs)
      by true e k = let j = h 0 (omega arith) e in omega (arith, k, j)
      by false e k = k

  pub least_holds : (m : ℕ) (cs : List ℕ) (k : ℕ) → k < length cs → p (get_or cs k 0) ≡ true → least p m cs ≤ get_or cs k 0
  least_holds m [] k l e = absurd (omega (arith, l))
  least_holds m (c ∷ cs) zero l e = by (p c) e
    where
      by : (a : Bool) → a ≡ true → (if a then min c (least p m cs) else least p m cs) ≤ c
      by true e = omega arith
      by false e = absurd (true≢false (sym e))
  least_holds m (c ∷ cs) (suc k) l e = by (p c) (least_holds m cs k (omega (arith, l)) e)
    where
      by : (a : Bool) → least p m cs ≤ get_or cs k 0 → (if a then min c (least p m cs) else least p m cs) ≤ get_or cs k 0
      by true j = omega (arith, j)
      by false j = j

  pub least_most : (m : ℕ) (cs : List ℕ) → least p m cs ≤ m
  least_most m [] = omega arith
  least_most m (c ∷ cs) = by (p c) (least_most m cs)
    where
      by : (a : Bool) → least p m cs ≤ m → (if a then min c (least p m cs) else least p m cs) ≤ m
      by true l = omega (arith, l)
      by false l = l

both_ways : (a b : ℕ) → a ≤ b → b ≤ a → a ≡ b
both_ways a b h k = omega (arith, h, k)

le_true : (a b : ℕ) → a ≤ b → nat_le a b ≡ true
le_true a b h = grind (arith, rules, h)

true_le : (a b : ℕ) → nat_le a b ≡ true → a ≤ b
true_le a b e = grind (arith, rules, e)

-- ---- what a search for n finds

module _ (cs : List ℕ) (n : ℕ) where
  -- n is there
  pub greatest_found : (k : ℕ) → k < length cs → get_or cs k 0 ≡ n → n ≡ greatest (λ c. nat_le c n) cs
  greatest_found k l e =
      let h = greatest_holds (λ c. nat_le c n) cs k l (le_true (get_or cs k 0) n (omega (arith, e))) in
      both_ways n (greatest (λ c. nat_le c n) cs) (omega (arith, h, e)) (greatest_within (λ c. nat_le c n) cs n (λ j m q. true_le (get_or cs j 0) n q))

  pub least_found : (m k : ℕ) → k < length cs → get_or cs k 0 ≡ n → min n m ≡ least (λ c. nat_le n c) m cs
  least_found m k l e =
      let h = least_holds (λ c. nat_le n c) m cs k l (le_true n (get_or cs k 0) (omega (arith, e))) in
      let u = least_most (λ c. nat_le n c) m cs in
      both_ways (min n m) (least (λ c. nat_le n c) m cs) (least_within (λ c. nat_le n c) m cs (min n m) (omega arith) (λ j i q. let r = true_le n (get_or cs j 0) q in omega (arith, r))) (omega (arith, h, u, e))

  -- it stands between i - 1 and i
  module _ (i : ℕ) (b : i ≤ length cs) (lo : (k : ℕ) → k < i → get_or cs k 0 < n) (hi : (k : ℕ) → i ≤ k → k < length cs → n < get_or cs k 0) where
    pub greatest_none : i ≡ 0 → 0 ≡ greatest (λ c. nat_le c n) cs
    greatest_none z =
        both_ways 0 (greatest (λ c. nat_le c n) cs) (omega arith)
        (greatest_within (λ c. nat_le c n) cs 0 (λ k l e. let h = hi k (omega (arith, z)) l in let m = true_le (get_or cs k 0) n e in absurd (omega (arith, h, m))))

    pub greatest_before : (j : ℕ) → i ≡ suc j → ((a c : ℕ) → a ≤ c → c < length cs → get_or cs a 0 ≤ get_or cs c 0) → get_or cs j 0 ≡ greatest (λ c. nat_le c n) cs
    greatest_before j e up =
        let h = lo j (omega (arith, e)) in
        both_ways (get_or cs j 0) (greatest (λ c. nat_le c n) cs)
        (greatest_holds (λ c. nat_le c n) cs j (omega (arith, b, e)) (le_true (get_or cs j 0) n (omega (arith, h))))
        (greatest_within (λ c. nat_le c n) cs (get_or cs j 0) (λ k l q. below k l (true_le (get_or cs k 0) n q) (nat_le k j) refl))
      where
        below : (k : ℕ) → k < length cs → get_or cs k 0 ≤ n → (t : Bool) → nat_le k j ≡ t → get_or cs k 0 ≤ get_or cs j 0
        below k l q true t = let u : k ≤ j = true_le k j t in up k j u (omega (arith, b, e))
        below k l q false t = let u : i ≤ k = later k t in let v = hi k u l in absurd (omega (arith, v, q))
          where
            later : (k : ℕ) → nat_le k j ≡ false → i ≤ k
            later k t = let w : j < k = grind (arith, rules, t) in omega (arith, w, e)

    pub least_none : (m : ℕ) → length cs ≤ i → m ≡ least (λ c. nat_le n c) m cs
    least_none m l =
        let u = least_most (λ c. nat_le n c) m cs in
        both_ways m (least (λ c. nat_le n c) m cs)
        (least_within (λ c. nat_le n c) m cs m (omega arith) (λ k j q. let h = lo k (omega (arith, j, l)) in let r = true_le n (get_or cs k 0) q in absurd (omega (arith, h, r))))
        u

    pub least_at : (m : ℕ) → i < length cs → ((a c : ℕ) → a ≤ c → c < length cs → get_or cs a 0 ≤ get_or cs c 0) → min (get_or cs i 0) m ≡ least (λ c. nat_le n c) m cs
    least_at m l up =
        let h = hi i (omega arith) l in
        let a = least_holds (λ c. nat_le n c) m cs i l (le_true n (get_or cs i 0) (omega (arith, h))) in
        let u = least_most (λ c. nat_le n c) m cs in
        both_ways (min (get_or cs i 0) m) (least (λ c. nat_le n c) m cs)
        (least_within (λ c. nat_le n c) m cs (min (get_or cs i 0) m) (omega arith) (λ k j q. let r = above k j (true_le n (get_or cs k 0) q) (nat_le i k) refl in omega (arith, r)))
        (omega (arith, a, u))
      where
        above : (k : ℕ) → k < length cs → n ≤ get_or cs k 0 → (t : Bool) → nat_le i k ≡ t → get_or cs i 0 ≤ get_or cs k 0
        above k j q true t = let u : i ≤ k = true_le i k t in up i k u j
        above k j q false t = let u : k < i = grind (arith, rules, t) in let v = lo k u in absurd (omega (arith, v, q))
