-- Sums that may be larger than 128 bits.
use Rattle.std.proofs.Common.{◌≡◌, ℕ, ◌^◌, ◌<◌, refl, sym, ap, ◌∙◌, arith, ℤ, pos, negsuc, ◌+ℤ◌, ◌-ℤ◌, ◌*ℤ◌}
use Rattle.std.specs.Int.{int_div_euclid}
use Rattle.std.proofs.lemmas.Int.{ints}
use Rattle.jz_words.specs.declared.size.Size.TheVariants.{S64}
use Rattle.jz_words.specs.Sizes.{modulus, signed}
use Rattle.jz_words.specs.Words.{residue}
use Rattle.jz_words.specs.Readings.{fits_bytes}
use Rattle.jz_words.proofs.Residues.{residue_small, divided_by_words}
use Rattle.jz_limits.specs.declared.terms.Terms.{Terms}
use Rattle.jz_limits.specs.Asked.{has_displacement}
use Rattle.jz_limits.specs.InnerLooked.{total}

-- two quotients with their remainders, of numbers that differ by so many times 2 to the 128
same_rest : (q p t r : ℤ) (a b : ℕ) → (q *ℤ pos (2 ^ 64)) +ℤ pos a ≡ r +ℤ (t *ℤ pos (2 ^ 128)) → (p *ℤ pos (2 ^ 64)) +ℤ pos b ≡ r → a < 2 ^ 64 → b < 2 ^ 64 → a ≡ b
same_rest q p t r a b e f x y = omega (arith, ints, e, f, x, y)

same_residue : (r t : ℤ) → residue S64 (r +ℤ (t *ℤ pos (2 ^ 128))) ≡ residue S64 r
same_residue r t =
    let z = r +ℤ (t *ℤ pos (2 ^ 128)) in
    same_rest (int_div_euclid z (pos (modulus S64))) (int_div_euclid r (pos (modulus S64))) t r (residue S64 z) (residue S64 r)
    (divided_by_words S64 z) (divided_by_words S64 r) (residue_small z) (residue_small r)

pub same_displacement : (t : Terms) → has_displacement (total t) ≡ has_displacement t.rest
same_displacement t = ap (λ a. fits_bytes 4 (signed S64 a)) (same_residue t.rest t.turns)

-- ---- sums of sums

pub both_totals : (s r w a b x y : ℤ) → s ≡ a +ℤ b → r ≡ s +ℤ x → w ≡ r +ℤ y → w ≡ (a +ℤ x) +ℤ (b +ℤ y)
both_totals s r w a b x y e f g = omega (arith, ints, e, f, g)

pub less_total : (s w a b x : ℤ) → s ≡ a -ℤ b → w ≡ s +ℤ x → w ≡ (a +ℤ x) -ℤ b
less_total s w a b x e f = omega (arith, ints, e, f)
