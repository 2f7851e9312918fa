-- Sums that stop at a greatest number.
use Rattle.std.proofs.Common.{◌≡◌, ℕ, ◌+◌, ◌<◌, ◌≤◌, Bool, true, false, refl, ap, sym, ◌∙◌, arith}
use Rattle.std.specs.Prelude.{min, nat_lt}
use Rattle.std.proofs.Math.Nat.{min-eq_left, min-eq_right}
use Rattle.std.proofs.lemmas.Bool.Decides.{nat_tests}

swapped : (a b : ℕ) → a + b ≡ b + a
swapped a b = omega arith

module _ (M : ℕ) where
  past : (a : ℕ) → M ≤ a → min a M ≡ M
  past a h = min-eq_right h

  by_test : (a b : ℕ) (t : Bool) → nat_lt M a ≡ t → min (min a M + b) M ≡ min (a + b) M
  by_test a b true e =
      let more : M < a = grind (arith, nat_tests, e) in
      ap (λ x. min (x + b) M) (past a (omega (arith, more))) ∙ past (M + b) (omega arith) ∙ sym (past (a + b) (omega (arith, more)))
  by_test a b false e = let within : a ≤ M = grind (arith, nat_tests, e) in ap (λ x. min (x + b) M) (min-eq_left within)

  pub capped_left : (a b : ℕ) → min (min a M + b) M ≡ min (a + b) M
  capped_left a b = by_test a b (nat_lt M a) refl

  pub capped_right : (a b : ℕ) → min (a + min b M) M ≡ min (a + b) M
  capped_right a b = ap (λ x. min x M) (swapped a (min b M)) ∙ capped_left b a ∙ ap (λ x. min x M) (swapped b a)

  pub capped_sum : (a b k : ℕ) → min (min a M + min (min b M + k) M) M ≡ min (a + (b + k)) M
  capped_sum a b k = ap (λ x. min (min a M + x) M) (capped_left b k) ∙ capped_left a (min (b + k) M) ∙ capped_right a (b + k)

  -- a count that is below the greatest number is the whole count
  pub exact : (a : ℕ) → min a M < M → min a M ≡ a
  exact a less = by_side (nat_lt M a) refl
    where
      by_side : (t : Bool) → nat_lt M a ≡ t → min a M ≡ a
      by_side true e = let more : M < a = grind (arith, nat_tests, e) in let top = past a (omega (arith, more)) in absurd (omega (arith, top, less))
      by_side false e = let within : a ≤ M = grind (arith, nat_tests, e) in min-eq_left within
