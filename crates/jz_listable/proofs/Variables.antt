-- The text of a variable has the bytes of one.
use Rattle.std.proofs.Common.{◌≡◌, ℕ, zero, suc, ◌+◌, ◌%◌, ◌/◌, ◌==◌, ◌<◌, Bool, true, false, ◌&&◌, ◌||◌, if◌then◌else◌, nat_le, List, [], ◌∷◌, ◌++◌, codes, Option, Some, None, refl, sym, subst, arith}
use Rattle.std.specs.Prelude.{All, decimal}
use Rattle.std.specs.Fmt.{digit_glyph, digits_onto, digits}
use Rattle.std.proofs.lemmas.Bool.{and_from, or_left, lt-ltb, le-leb}
use Rattle.std.proofs.lemmas.List.Elements.{All-nil, All-cons, All-append, All-weaker}
use Rattle.jz_variable_text.specs.Variables.{variable_text}
use Rattle.jz_listing.specs.Listable.{is_name_byte, is_variable_byte, IsName, IsVariable}

abbrev IsByte : ℕ → Type 0
IsByte b = is_variable_byte b ≡ true

-- ---- numbers
digit_byte : (d : ℕ) → d < 10 → IsByte (48 + d)
digit_byte d lt =
    let digit : (nat_le 48 (48 + d) && nat_le (48 + d) 57) ≡ true = and_from (nat_le 48 (48 + d)) (nat_le (48 + d) 57) (le-leb 48 (48 + d) (omega arith)) (le-leb (48 + d) 57 (omega (arith, lt))) in
    or_left (is_name_byte (48 + d)) ((48 + d == 91) || (48 + d == 93))
    (or_left (nat_le 48 (48 + d) && nat_le (48 + d) 57) ((nat_le 65 (48 + d) && nat_le (48 + d) 90) || ((48 + d == 95) || (nat_le 97 (48 + d) && nat_le (48 + d) 122))) digit)

glyph_byte : (d : ℕ) → d < 10 → IsByte (digit_glyph false d)
glyph_byte d lt = subst (λ t. IsByte (if t then 48 + d else 87 + d)) (sym (lt-ltb d 10 lt)) (digit_byte d lt)

by_end : (b : Bool) (xs ys : List ℕ) → All IsByte xs → All IsByte ys → All IsByte (if b then xs else ys)
by_end true xs ys h k = h
by_end false xs ys h k = k

digits_bytes : (k n : ℕ) (rest : List ℕ) → All IsByte rest → All IsByte (digits_onto k 10 false n rest)
digits_bytes zero n rest h = h
digits_bytes (suc k) n rest h =
    let more : All IsByte (digit_glyph false (n % 10) ∷ rest) = All-cons IsByte (digit_glyph false (n % 10)) rest (glyph_byte (n % 10) (omega arith)) h in
    by_end (n / 10 == 0) (digit_glyph false (n % 10) ∷ rest) (digits_onto k 10 false (n / 10) (digit_glyph false (n % 10) ∷ rest)) more
    (digits_bytes k (n / 10) (digit_glyph false (n % 10) ∷ rest) more)

decimal_bytes : (n : ℕ) → All IsByte (decimal n)
unfolding digits
decimal_bytes n = digits_bytes 64 n [] (All-nil IsByte)

-- ---- variables
pub name_bytes : (w : List ℕ) → IsName w → IsVariable w
name_bytes w h = All-weaker (λ b. is_name_byte b ≡ true) IsByte (λ b e. or_left (is_name_byte b) ((b == 91) || (b == 93)) e) w h

open_bytes : All IsByte (codes "[")
open_bytes = All-cons IsByte 91 [] refl (All-nil IsByte)

end_bytes : All IsByte (codes "]")
end_bytes = All-cons IsByte 93 [] refl (All-nil IsByte)

pub text_bytes : (name : List ℕ) (cell : Option ℕ) → IsName name → IsVariable (variable_text name cell)
text_bytes name None h = name_bytes name h
text_bytes name (Some k) h =
    All-append IsByte name (codes "[" ++ (decimal k ++ codes "]")) (name_bytes name h)
    (All-append IsByte (codes "[") (decimal k ++ codes "]") open_bytes (All-append IsByte (decimal k) (codes "]") (decimal_bytes k) end_bytes))

pub memory_bytes : IsVariable (codes "mem")
memory_bytes = All-cons IsByte 109 (101 ∷ (109 ∷ [])) refl (All-cons IsByte 101 (109 ∷ []) refl (All-cons IsByte 109 [] refl (All-nil IsByte)))
