-- The values of a counter, one after another.
use Rattle.std.proofs.Common.{◌≡◌, suc, [], ◌∷◌, true, false, ap, refl, arith}
use Rattle.std.specs.Prelude.{ℤ, pos, negsuc, ◌+ℤ◌, ◌-ℤ◌, ◌<ℤ◌, ◌≤ℤ◌}
use Rattle.std.proofs.lemmas.Int.{ints}
use Rattle.jz_meaning.specs.Statements.{rising, falling, from_zero, values_between}

one_more : (d e : ℤ) → d ≡ (e +ℤ pos 1) → pos 0 ≤ℤ e → from_zero d ≡ suc (from_zero e)
one_more (pos m) (pos n) q h = omega (arith, ints, q)
one_more (pos m) (negsuc n) q h = absurd (omega (arith, ints, h))
one_more (negsuc m) (pos n) q h = absurd (omega (arith, ints, q))
one_more (negsuc m) (negsuc n) q h = absurd (omega (arith, ints, h))

none : (d : ℤ) → d ≤ℤ pos 0 → from_zero d ≡ 0
none (pos m) h = omega (arith, ints, h)
none (negsuc m) h = refl

pub rising_more : (i b : ℤ) → i <ℤ b → values_between false i b ≡ i ∷ values_between false (i +ℤ pos 1) b
rising_more i b lt = ap (λ k. rising k i) (one_more (b -ℤ i) (b -ℤ (i +ℤ pos 1)) (omega (arith, ints)) (omega (arith, ints, lt)))

pub rising_none : (i b : ℤ) → b ≤ℤ i → values_between false i b ≡ []
rising_none i b le = ap (λ k. rising k i) (none (b -ℤ i) (omega (arith, ints, le)))

pub falling_more : (i b : ℤ) → b <ℤ i → values_between true i b ≡ i ∷ values_between true (i -ℤ pos 1) b
falling_more i b lt = ap (λ k. falling k i) (one_more (i -ℤ b) ((i -ℤ pos 1) -ℤ b) (omega (arith, ints)) (omega (arith, ints, lt)))

pub falling_none : (i b : ℤ) → i ≤ℤ b → values_between true i b ≡ []
falling_none i b le = ap (λ k. falling k i) (none (i -ℤ b) (omega (arith, ints, le)))
