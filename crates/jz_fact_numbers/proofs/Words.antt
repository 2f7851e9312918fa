-- Constants are words.
use Rattle.std.proofs.Common.{◌≡◌, ℕ, ◌-◌, ◌≤◌, ◌^◌, List, [], ◌∷◌, ◌++◌, Bool, true, false, refl, sym, ◌∙◌, arith, rules}
use Rattle.std.specs.Prelude.{ℤ, pos, negsuc, ◌-ℤ◌, ◌+ℤ◌, nat_le, ◌==◌, ◌||◌, if◌then◌else◌}
use Rattle.jz_intervals.specs.Constants.{in_words, around, all_around, constants, is_among}
use Rattle.jz_fact_numbers.specs.Ends.{HasEnds}

abbrev AreWords : List ℕ → Type 0
AreWords [] = Unit {0}
AreWords (k ∷ ks) = (k ≤ 2 ^ 64 - 1) × AreWords ks

both : (xs ys : List ℕ) → AreWords xs → AreWords ys → AreWords (xs ++ ys)
both [] ys h k = k
both (x ∷ xs) ys h k = (h.0, both xs ys h.1 k)

in_words_words : (i : ℤ) → AreWords (in_words i)
in_words_words (negsuc n) = tt
in_words_words (pos n) = by (nat_le n (2 ^ 64 - 1)) refl
  where
    by : (c : Bool) → nat_le n (2 ^ 64 - 1) ≡ c → AreWords (if c then n ∷ [] else [])
    by true e = let l : n ≤ 2 ^ 64 - 1 = grind (arith, rules, e) in (l, tt)
    by false e = tt

around_words : (i : ℤ) → AreWords (around i)
around_words i =
    let a = in_words (i -ℤ pos 1) in
    let b = in_words i in
    let d = in_words (i +ℤ pos 1) in
    both (a ++ b) d (both a b (in_words_words (i -ℤ pos 1)) (in_words_words i)) (in_words_words (i +ℤ pos 1))

all_words : (ns : List ℤ) → AreWords (all_around ns)
all_words [] = tt
all_words (i ∷ ns) = both (around i) (all_around ns) (around_words i) (all_words ns)

constants_words : (ns : List ℤ) → AreWords (constants ns)
constants_words ns = (omega arith, (omega arith, (omega arith, (omega arith, (omega arith, (omega arith, all_words ns))))))

among_words : (ks : List ℕ) → AreWords ks → (c : ℕ) → is_among c ks ≡ true → c ≤ 2 ^ 64 - 1
among_words [] h c e = absurd (cc e)
among_words (k ∷ ks) h c e = by (c == k) refl e (λ r. among_words ks h.1 c r)
  where
    by : (b : Bool) → (c == k) ≡ b → (b || is_among c ks) ≡ true → (is_among c ks ≡ true → c ≤ 2 ^ 64 - 1) → c ≤ 2 ^ 64 - 1
    by true q e rest = let same : c ≡ k = grind (arith, rules, q) in let l : k ≤ 2 ^ 64 - 1 = h.0 in omega (arith, same, l)
    by false q e rest = rest e

pub has_ends : (cs : List ℕ) (ns : List ℤ) → ((c : ℕ) → is_among c cs ≡ is_among c (constants ns)) → HasEnds cs
has_ends cs ns alike = record {
  zero = alike 0;
  most = alike (2 ^ 64 - 1);
  words = λ c e. among_words (constants ns) (constants_words ns) c (sym (alike c) ∙ e);
}
