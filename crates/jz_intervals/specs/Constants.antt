-- The constants that facts speak of, and the nearest of them to a number.
use Rattle.std.specs.Prelude.{ℕ, ℤ, pos, negsuc, ◌+ℤ◌, ◌-ℤ◌, ◌-◌, ◌^◌, ◌==◌, nat_le, Bool, false, ◌||◌, List, [], ◌∷◌, ◌++◌, min, max, if◌then◌else◌}

-- a whole number as far as it lies in 0 .. 2^64 - 1
abbrev pub in_words : ℤ → List ℕ
in_words (pos n) = if nat_le n (2 ^ 64 - 1) then n ∷ [] else []
in_words (negsuc n) = []

-- a number, and it less 1 and plus 1
abbrev pub around : ℤ → List ℕ
around i = in_words (i -ℤ pos 1) ++ in_words i ++ in_words (i +ℤ pos 1)

abbrev pub all_around : List ℤ → List ℕ
all_around [] = []
all_around (i ∷ is) = around i ++ all_around is

-- the constants of a text, by the numbers that stand in it and in its annotations
abbrev pub constants : List ℤ → List ℕ
constants is =
    0 ∷ 1 ∷ (2 ^ 8 - 1) ∷ (2 ^ 16 - 1) ∷ (2 ^ 32 - 1) ∷ (2 ^ 64 - 1) ∷ all_around is

abbrev pub is_among : ℕ → List ℕ → Bool
is_among c [] = false
is_among c (k ∷ ks) = (c == k) || is_among c ks

-- the greatest of these numbers of which this is so, else 0
abbrev pub greatest : (ℕ → Bool) → List ℕ → ℕ
greatest p [] = 0
greatest p (c ∷ cs) = if p c then max c (greatest p cs) else greatest p cs

-- the least of them and of m
abbrev pub least : (ℕ → Bool) → ℕ → List ℕ → ℕ
least p m [] = m
least p m (c ∷ cs) = if p c then min c (least p m cs) else least p m cs
