-- Numbers that are no words, and numbers beside numbers.
use Rattle.std.proofs.Common.{append_assoc, append-nil, ◌≡◌, ℕ, ◌+◌, ◌-◌, ◌<◌, ◌≤◌, ◌^◌, List, [], ◌∷◌, ◌++◌, length, drop, get_or, Bool, true, false, refl, ap, sym, ◌∙◌, arith, rules}
use Rattle.std.specs.Prelude.{ℤ, pos, negsuc, ◌<ℤ◌, nat_le, if◌then◌else◌}
use Rattle.std.proofs.lemmas.Int.{ints}
use Rattle.std.proofs.lemmas.List.{at_drop_more}
use Rattle.std.proofs.Math.ListN.{drop_of_length-le}
use Rattle.jz_intervals.specs.Constants.{in_words, around, all_around}

pub no_word : (i : ℤ) → i <ℤ pos 0 → in_words i ≡ []
no_word (pos n) h = absurd (omega (arith, ints, h))
no_word (negsuc n) h = refl

pub large : (i : ℤ) → pos (2 ^ 64 - 1) <ℤ i → in_words i ≡ []
large (negsuc n) h = refl
large (pos n) h = by (nat_le n (2 ^ 64 - 1)) refl
  where
    by : (c : Bool) → nat_le n (2 ^ 64 - 1) ≡ c → (if c then n ∷ [] else []) ≡ []
    by true e = let l : n ≤ 2 ^ 64 - 1 = grind (arith, rules, e) in absurd (omega (arith, ints, h, l))
    by false e = refl

pub a_word : (n : ℕ) → n ≤ 2 ^ 64 - 1 → in_words (pos n) ≡ n ∷ []
a_word n h = by (nat_le n (2 ^ 64 - 1)) refl
  where
    by : (c : Bool) → nat_le n (2 ^ 64 - 1) ≡ c → (if c then n ∷ [] else []) ≡ n ∷ []
    by true e = refl
    by false e = let l : 2 ^ 64 - 1 < n = grind (arith, rules, e) in absurd (omega (arith, h, l))

-- one number more
pub around_more : (ns : List ℤ) (i : ℕ) (n d : ℤ) (old new all : List ℕ) → i < length ns → n ≡ get_or ns i d → new ≡ old ++ around n
    → old ++ all_around (drop i ns) ≡ all → new ++ all_around (drop (i + 1) ns) ≡ all
around_more ns i n d old new all l e made before =
    let rest = all_around (drop (i + 1) ns) in
    let step : all_around (drop i ns) ≡ around n ++ rest = at_drop_more all_around ns i d l ∙ ap (λ m. around m ++ rest) (sym e) in
    ap (λ (xs : List ℕ). xs ++ rest) made ∙ append_assoc old (around n) rest ∙ sym (ap (λ (xs : List ℕ). old ++ xs) step) ∙ before

pub around_end : (ns : List ℤ) (i : ℕ) (out all : List ℕ) → length ns ≤ i → out ++ all_around (drop i ns) ≡ all → out ≡ all
around_end ns i out all l e = sym (append-nil out) ∙ sym (ap (λ ms. out ++ all_around ms) (drop_of_length-le ns l)) ∙ e
