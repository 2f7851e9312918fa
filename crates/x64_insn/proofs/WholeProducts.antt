-- What a product is in plain arithmetic.
use Rattle.std.proofs.Common.{◌≡◌, ◌<◌, ◌≤◌, ◌↔◌, Bool, true, false, refl, ℕ, ◌+◌, ◌*◌, ◌/◌, ◌%◌, sym, ap, subst, ◌∙◌, arith, ℤ, pos, negsuc, ◌+ℤ◌, ◌-ℤ◌, ◌*ℤ◌, ◌<ℤ◌, ◌≤ℤ◌}
use Rattle.std.specs.Prelude.{unsigned_abs, not, ◌==◌}
use Rattle.std.specs.Int.{int_div_euclid}
use Rattle.std.proofs.Math.Nat.{mul-le-mul}
use Rattle.std.proofs.lemmas.Int.{ints, unsigned_abs-mul}
use Rattle.std.proofs.lemmas.Nat.{mod_below, div-add-mod'}
use Rattle.jz_words.specs.declared.size.Size.{Size}
use Rattle.jz_words.specs.declared.size.Size.TheVariants.{S8, S16, S32, S64}
use Rattle.jz_words.specs.Sizes.{half, modulus, signed}
use Rattle.jz_words.specs.Words.{residue, signed_product}
use Rattle.jz_words.proofs.Residues.{some_words, residue_below, signed_of_residue, divided_by_words, signed_within}
use Rattle.x64_insn.specs.Answers.{overflows}
use Rattle.x64_insn.specs.Products.{product_flags, product_answer, signed_product_answer, low_product_answer, IsProduct, IsSignedProduct, IsNoWord, MarksOverflow}
use Rattle.x64_insn.proofs.Quotients.{no_word}

pub product_whole : (s : Size) (a b : ℕ) → IsProduct s a b (product_answer s a b)
unfolding product_answer
product_whole s a b = (div-add-mod' (a * b) (modulus s), mod_below (a * b) (modulus s) (some_words s))

bounded_by : (z : ℤ) (k : ℕ) → unsigned_abs z ≤ k → ((pos 0 -ℤ pos k) ≤ℤ z) × (z ≤ℤ pos k)
bounded_by (pos n) k le = (omega (arith, ints, le), omega (arith, ints, le))
bounded_by (negsuc n) k le = (omega (arith, ints, le), omega (arith, ints, le))

-- a signed product is not further from 0 than the product of the least words
product_bounds : (s : Size) (a b : ℕ) → a < modulus s → b < modulus s
    → ((pos 0 -ℤ pos (half s * half s)) ≤ℤ signed_product s a b) × (signed_product s a b ≤ℤ pos (half s * half s))
product_bounds s a b la lb =
    bounded_by (signed_product s a b) (half s * half s)
    (subst (λ n. n ≤ half s * half s) (sym (unsigned_abs-mul (signed s a) (signed s b))) (mul-le-mul (signed_within s a la) (signed_within s b lb)))

-- so its high word is in the range of signed words
high_range : (s : Size) (q z : ℤ) (low : ℕ) → (q *ℤ pos (modulus s)) +ℤ pos low ≡ z → low < modulus s
    → (pos 0 -ℤ pos (half s * half s)) ≤ℤ z → z ≤ℤ pos (half s * half s) → ((pos 0 -ℤ pos (half s)) ≤ℤ q) × (q <ℤ pos (half s))
high_range S8 q z low e lt lo hi = (omega (arith, ints, e, lt, lo, hi), omega (arith, ints, e, lt, lo, hi))
high_range S16 q z low e lt lo hi = (omega (arith, ints, e, lt, lo, hi), omega (arith, ints, e, lt, lo, hi))
high_range S32 q z low e lt lo hi = (omega (arith, ints, e, lt, lo, hi), omega (arith, ints, e, lt, lo, hi))
high_range S64 q z low e lt lo hi = (omega (arith, ints, e, lt, lo, hi), omega (arith, ints, e, lt, lo, hi))

pub signed_product_whole : (s : Size) (a b : ℕ) → a < modulus s → b < modulus s → IsSignedProduct s a b (signed_product_answer s a b)
unfolding signed_product_answer
signed_product_whole s a b la lb =
    let z = signed_product s a b in
    let q = int_div_euclid z (pos (modulus s)) in
    let bounds : ((pos 0 -ℤ pos (half s * half s)) ≤ℤ signed_product s a b) × (signed_product s a b ≤ℤ pos (half s * half s)) = product_bounds s a b la lb in
    let range : ((pos 0 -ℤ pos (half s)) ≤ℤ q) × (q <ℤ pos (half s)) = high_range s q z (residue s z) (divided_by_words s z) (residue_below s z) bounds.0 bounds.1 in
    (ap (λ x. (x *ℤ pos (modulus s)) +ℤ pos (residue s z)) (signed_of_residue s q range.0 range.1) ∙ divided_by_words s z, residue_below s q, residue_below s z)

-- ---- the flags
marks_by : (more : Bool) (Over : Type 0) → (more ≡ true) ↔ Over → MarksOverflow (product_flags more) Over
marks_by true Over f = ((λ e. f.0 refl, λ h. refl), (λ e. absurd cc, λ no. absurd (no (f.0 refl))))
marks_by false Over f = ((λ e. absurd cc, λ h. let t = f.1 h in absurd cc), (λ e h. let t = f.1 h in absurd cc, λ no. refl))

some_high_by : (n m : ℕ) (none : Bool) → (n / m == 0) ≡ none → 0 < m → (not none ≡ true) ↔ (m ≤ n)
some_high_by n m true e p =
    let z : n / m ≡ 0 = grind arith in
    let rest : 0 * m + n % m ≡ n = subst (λ q. q * m + n % m ≡ n) z (div-add-mod' n m) in
    let lt : n < m = omega (arith, rest, mod_below n m p) in
    (λ k. absurd cc, λ le. absurd (omega (arith, le, lt)))
some_high_by n m false e p =
    let some : 0 < n / m = grind arith in
    let le : 1 * m ≤ n / m * m = mul-le-mul some (omega arith) in
    (λ k. omega (arith, le, div-add-mod' n m), λ le. refl)

pub product_marks : (s : Size) (a b : ℕ) → MarksOverflow (product_answer s a b).flags (modulus s ≤ a * b)
unfolding product_answer
product_marks s a b =
    marks_by (not (a * b / modulus s == 0)) (modulus s ≤ a * b) (some_high_by (a * b) (modulus s) _ refl (some_words s))

pub signed_product_marks : (s : Size) (a b : ℕ) → MarksOverflow (signed_product_answer s a b).flags (IsNoWord s (signed_product s a b))
unfolding signed_product_answer
signed_product_marks s a b = marks_by (overflows s (signed_product s a b)) _ (no_word s (signed_product s a b))

pub low_product_marks : (s : Size) (a b : ℕ) → MarksOverflow (low_product_answer s a b).flags (IsNoWord s (signed_product s a b))
unfolding low_product_answer
low_product_marks s a b = marks_by (overflows s (signed_product s a b)) _ (no_word s (signed_product s a b))

pub low_is_low : (s : Size) (a b : ℕ) → (low_product_answer s a b).value ≡ (signed_product_answer s a b).low
unfolding low_product_answer signed_product_answer
low_is_low s a b = refl
