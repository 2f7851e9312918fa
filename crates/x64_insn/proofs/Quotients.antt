-- Quotients of two words by a third.
use Rattle.std.proofs.Common.{◌≡◌, ◌<◌, ◌≤◌, ◌↔◌, ◌⊎◌, inl, inr, ℕ, ◌*◌, ◌+◌, ◌-◌, ◌/◌, ◌%◌, ◌^◌, Bool, true, false, refl, sym, ap, subst, ◌∙◌, arith, zero, suc}
use Rattle.std.specs.Prelude.{nat_lt, int_lt, not, ◌||◌, if◌then◌else◌, Option, Some, None, ℤ, pos, negsuc, ◌+ℤ◌, ◌-ℤ◌, ◌*ℤ◌, ◌<ℤ◌, ◌≤ℤ◌, unsigned_abs, int_div, int_rem, ◌==◌}
use Rattle.std.proofs.Math.Nat.{mod-le}
use Rattle.std.proofs.lemmas.Bool.{ltb-true, ltb-false}
use Rattle.std.proofs.lemmas.Int.{ints, quot-rem, rem_below}
use Rattle.std.proofs.lemmas.Nat.{mod_below, div-add-mod'}
use Rattle.std.proofs.lemmas.Option.{same_Some}
use Rattle.jz_words.specs.declared.size.Size.{Size}
use Rattle.jz_words.specs.declared.size.Size.TheVariants.{S8, S16, S32, S64}
use Rattle.jz_words.specs.Sizes.{half, modulus, signed}
use Rattle.jz_words.specs.Words.{residue}
use Rattle.jz_words.proofs.Residues.{signed_of_residue, signed_within}
use Rattle.x64_insn.specs.declared.products.DoubleAnswer.{DoubleAnswer}
use Rattle.x64_insn.specs.Answers.{overflows}
use Rattle.x64_insn.specs.Products.{no_flags, double_word, quotient_answer, signed_double_word, signed_quotient_answer, IsQuotient, IsSignedQuotient, IsNoWord}

only_zero : (d h m : ℕ) (b : Bool) → d < m → (if b then pos d else (pos d -ℤ pos m)) ≡ pos 0 → d ≡ 0
only_zero d h m true lt e = let f : pos d ≡ pos 0 = e in omega (arith, ints, f)
only_zero d h m false lt e = let f : (pos d -ℤ pos m) ≡ pos 0 = e in omega (arith, ints, lt, f)

above_zero : (d : ℕ) → (d == 0) ≡ false → 0 < d
above_zero d z = grind arith

-- of the words of a size only 0 stands for 0
pub signed_zero : (s : Size) (d : ℕ) → d < modulus s → signed s d ≡ pos 0 → d ≡ 0
unfolding signed
signed_zero s d lt e = only_zero d (half s) (modulus s) (nat_lt d (half s)) lt e

-- the one quotient of 128 bits that they do not hold
too_large : (s : Size) → overflows s (int_div (negsuc (2 ^ 127 - 1)) (negsuc 0)) ≡ true
unfolding overflows
too_large S8 = refl
too_large S16 = refl
too_large S32 = refl
too_large S64 = refl

twice_none : (b c : Bool) (x : Option DoubleAnswer) → c ≡ true → (if b then None else if c then None else x) ≡ None
twice_none true c x h = refl
twice_none false c x h = rw h refl

pub no_quotient : (s : Size) (high low d : ℕ) (n e : ℤ) → n ≡ signed_double_word s high low → e ≡ signed s d
    → n ≡ negsuc (2 ^ 127 - 1) → e ≡ negsuc 0 → signed_quotient_answer s high low d ≡ None
unfolding signed_quotient_answer
no_quotient s high low d n e hn he kn ke =
    twice_none (d == 0) _ _
    (ap (λ x. overflows s (int_div x (signed s d))) (sym hn ∙ kn)
    ∙ ap (λ x. overflows s (int_div (negsuc (2 ^ 127 - 1)) x)) (sym he ∙ ke)
    ∙ too_large s)

-- ---- what a quotient is in plain arithmetic
divides_by : (n d m : ℕ) (none small : Bool) (r : DoubleAnswer) → (d == 0) ≡ none
    → (if none then None else if small then Some (record { high = n % d; low = n / d; flags = no_flags }) else None) ≡ Some r
    → (n ≡ r.low * d + r.high) × (r.high < d)
divides_by n d m true small r z e = absurd cc
divides_by n d m false false r z e = absurd cc
divides_by n d m false true r z e =
    subst (λ x. (n ≡ x.low * d + x.high) × (x.high < d)) (same_Some _ r e) (sym (div-add-mod' n d), mod_below n d (above_zero d z))

pub quotient_divides : (s : Size) (high low d : ℕ) (r : DoubleAnswer) → quotient_answer s high low d ≡ Some r → IsQuotient s high low d r
unfolding quotient_answer
quotient_divides s high low d r e =
    let n = double_word s high low in
    divides_by n d (modulus s) (d == 0) (nat_lt (n / d) (modulus s)) r refl e

missed_by : (d q m : ℕ) (none small : Bool) (r : DoubleAnswer) → (d == 0) ≡ none → nat_lt q m ≡ small
    → ((if none then None else if small then Some r else None) ≡ None) ↔ ((d ≡ 0) ⊎ (m ≤ q))
missed_by d q m true small r z l = (λ e. inl (grind arith), λ h. refl)
missed_by d q m false false r z l = (λ e. inr (ltb-false q m l), λ h. refl)
missed_by d q m false true r z l =
    let positive = above_zero d z in
    let lt = ltb-true q m l in
    (λ e. absurd cc, λ h. elim h [ inl k ↦ absurd (omega (arith, k, positive)) | inr le ↦ absurd (omega (arith, le, lt)) ])

pub quotient_missed : (s : Size) (high low d : ℕ) → (quotient_answer s high low d ≡ None) ↔ ((d ≡ 0) ⊎ (modulus s ≤ double_word s high low / d))
unfolding quotient_answer
quotient_missed s high low d =
    let n = double_word s high low in
    missed_by d (n / d) (modulus s) (d == 0) (nat_lt (n / d) (modulus s)) _ refl refl

-- ---- the same of signed words
in_range_by : (z low high : ℤ) (p q : Bool) → int_lt z low ≡ p → int_lt z high ≡ q → (p || not q) ≡ false → (low ≤ℤ z) × (z <ℤ high)
in_range_by z low high true q e f h = absurd cc
in_range_by z low high false false e f h = absurd cc
in_range_by z low high false true e f h = (grind (arith, ints), grind (arith, ints))

in_range : (s : Size) (z : ℤ) → overflows s z ≡ false → ((pos 0 -ℤ pos (half s)) ≤ℤ z) × (z <ℤ pos (half s))
unfolding overflows
in_range s z h = in_range_by z (pos 0 -ℤ pos (half s)) (pos (half s)) _ _ refl refl h

-- a remainder is nearer to 0 than the divisor, which is a word
remainder_range : (z : ℤ) (k h : ℕ) → unsigned_abs z < k → k ≤ h → ((pos 0 -ℤ pos h) ≤ℤ z) × (z <ℤ pos h)
remainder_range (pos n) k h lt le = (omega (arith, ints, lt, le), omega (arith, ints, lt, le))
remainder_range (negsuc n) k h lt le = (omega (arith, ints, lt, le), omega (arith, ints, lt, le))

abs_above_zero : (z : ℤ) → (z ≡ pos 0 → ⊥) → 0 < unsigned_abs z
abs_above_zero (pos zero) h = absurd (h refl)
abs_above_zero (pos (suc n)) h = omega arith
abs_above_zero (negsuc n) h = omega arith

-- a remainder has the sign of what is divided
remainder_up : (n e : ℤ) → pos 0 ≤ℤ n → pos 0 ≤ℤ int_rem n e
remainder_up (pos n) e h = omega (arith, ints)
remainder_up (negsuc n) e h = absurd (omega (arith, ints, h))

remainder_down : (n e : ℤ) → n ≤ℤ pos 0 → int_rem n e ≤ℤ pos 0
remainder_down (pos n) e h = omega (arith, ints, h, mod-le n (unsigned_abs e))
remainder_down (negsuc n) e h = omega (arith, ints)

-- what a quotient and a remainder in range make of the words that stand for them
signed_words : (s : Size) (high low d : ℕ) → d < modulus s → (signed s d ≡ pos 0 → ⊥)
    → overflows s (int_div (signed_double_word s high low) (signed s d)) ≡ false
    → IsSignedQuotient s high low d (record {
      high = residue s (int_rem (signed_double_word s high low) (signed s d));
      low = residue s (int_div (signed_double_word s high low) (signed s d));
      flags = no_flags;
    })
signed_words s high low d lt some fits =
    let n = signed_double_word s high low in
    let e = signed s d in
    let near : unsigned_abs (int_rem n e) < unsigned_abs e = rem_below n e (abs_above_zero e some) in
    let r-range : ((pos 0 -ℤ pos (half s)) ≤ℤ int_rem n e) × (int_rem n e <ℤ pos (half s)) = remainder_range (int_rem n e) (unsigned_abs e) (half s) near (signed_within s d lt) in
    let q-range : ((pos 0 -ℤ pos (half s)) ≤ℤ int_div n e) × (int_div n e <ℤ pos (half s)) = in_range s (int_div n e) fits in
    let r-is : signed s (residue s (int_rem n e)) ≡ int_rem n e = signed_of_residue s (int_rem n e) r-range.0 r-range.1 in
    let q-is : signed s (residue s (int_div n e)) ≡ int_div n e = signed_of_residue s (int_div n e) q-range.0 q-range.1 in (
      sym (quot-rem n e) ∙ ap (λ x. (x *ℤ e) +ℤ int_rem n e) (sym q-is) ∙ ap (λ x. (signed s (residue s (int_div n e)) *ℤ e) +ℤ x) (sym r-is),
      subst (λ x. unsigned_abs x < unsigned_abs e) (sym r-is) near,
      λ up. subst (λ x. pos 0 ≤ℤ x) (sym r-is) (remainder_up n e up),
      λ down. subst (λ x. x ≤ℤ pos 0) (sym r-is) (remainder_down n e down),
    )

signed_divides_by : (s : Size) (high low d : ℕ) (none over : Bool) (x r : DoubleAnswer) → (d == 0) ≡ none
    → (over ≡ false → (d ≡ 0 → ⊥) → IsSignedQuotient s high low d x)
    → (if none then None else if over then None else Some x) ≡ Some r → IsSignedQuotient s high low d r
signed_divides_by s high low d true over x r z law e = absurd cc
signed_divides_by s high low d false true x r z law e = absurd cc
signed_divides_by s high low d false false x r z law e =
    let positive = above_zero d z in
    subst (λ y. IsSignedQuotient s high low d y) (same_Some x r e) (law refl (λ k. omega (arith, k, positive)))

pub signed_quotient_divides : (s : Size) (high low d : ℕ) (r : DoubleAnswer) → d < modulus s → signed_quotient_answer s high low d ≡ Some r → IsSignedQuotient s high low d r
unfolding signed_quotient_answer
signed_quotient_divides s high low d r lt e =
    signed_divides_by s high low d (d == 0) (overflows s (int_div (signed_double_word s high low) (signed s d))) _ r refl
    (λ fits some. signed_words s high low d lt (λ k. some (signed_zero s d lt k)) fits) e

-- ---- where there is none
out_by : (z low high : ℤ) (p q : Bool) → int_lt z low ≡ p → int_lt z high ≡ q → ((p || not q) ≡ true) ↔ ((z <ℤ low) ⊎ (high ≤ℤ z))
out_by z low high true q e f = (λ h. inl (grind (arith, ints)), λ h. refl)
out_by z low high false false e f = (λ h. inr (grind (arith, ints)), λ h. refl)
out_by z low high false true e f =
    let above : low ≤ℤ z = grind (arith, ints) in
    let under : z <ℤ high = grind (arith, ints) in
    (λ h. absurd cc, λ h. elim h [ inl l ↦ absurd (omega (arith, ints, l, above)) | inr g ↦ absurd (omega (arith, ints, g, under)) ])

pub no_word : (s : Size) (z : ℤ) → (overflows s z ≡ true) ↔ IsNoWord s z
unfolding overflows
no_word s z = out_by z (pos 0 -ℤ pos (half s)) (pos (half s)) _ _ refl refl

signed_missed_by : (d : ℕ) (none over : Bool) (r : DoubleAnswer) (Out : Type 0) → (d == 0) ≡ none → (over ≡ true) ↔ Out
    → ((if none then None else if over then None else Some r) ≡ None) ↔ ((d ≡ 0) ⊎ Out)
signed_missed_by d true over r Out z f = (λ e. inl (grind arith), λ h. refl)
signed_missed_by d false true r Out z f = (λ e. inr (f.0 refl), λ h. refl)
signed_missed_by d false false r Out z f =
    let positive = above_zero d z in
    (λ e. absurd cc, λ h. elim h [ inl k ↦ absurd (omega (arith, k, positive)) | inr out ↦ let t = f.1 out in absurd cc ])

pub signed_quotient_missed : (s : Size) (high low d : ℕ)
    → (signed_quotient_answer s high low d ≡ None) ↔ ((d ≡ 0) ⊎ IsNoWord s (int_div (signed_double_word s high low) (signed s d)))
unfolding signed_quotient_answer
signed_quotient_missed s high low d =
    let q = int_div (signed_double_word s high low) (signed s d) in
    signed_missed_by d (d == 0) (overflows s q) _ (IsNoWord s q) refl (no_word s q)
