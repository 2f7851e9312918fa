-- Code is no longer than the text that it stands in.
use Rattle.std.proofs.Common.{ℕ, suc, ◌<◌, ◌≤◌, ◌^◌, Bool, true, false, cond, List, [], ◌∷◌, ◌++◌, length, ap, length-append, arith}
use Rattle.std.specs.Prelude.{map, codes, decimal, All}
use Rattle.std.specs.List.{concat, filter}
use Rattle.std.proofs.lemmas.List.Elements.{All-nil, All-cons}
use Rattle.hex.specs.Hex.{encode_lower, lower_digits, is_hex_digit}
use Rattle.hex.proofs.HexLemmas.{length-encode_with, decode_of-ok}
use Rattle.jz_listing.specs.declared.compiled.Compiled.{Compiled}
use Rattle.jz_listing.specs.Listing.{interface_text, frame_text, code_text, leakage_text, compiled_text}
use Rattle.jz_listing_read.specs.Reading.{IsListing}
use Rattle.jz_disasm.specs.Hexadecimal.{IsHexOf, digits_of}
use Rattle.jz_disasm_text.specs.Shown.{IsShort}

code_within : (a n b c e : List ℕ) → length c ≤ length (a ++ n ++ b ++ c ++ e)
code_within a n b c e = omega (arith, length-append (a ++ n ++ b ++ c) e, length-append (a ++ n ++ b) c)

fun_within : (c : Compiled) → length c.code ≤ length (compiled_text c)
fun_within c =
    omega (
      arith,
      length-encode_with lower_digits c.code,
      code_within (codes "insns ") (decimal c.insns) (codes "\ncode ") (encode_lower c.code) (codes "\n"),
      length-append (interface_text c ++ frame_text c ++ code_text c) (leakage_text c),
      length-append (interface_text c ++ frame_text c) (code_text c),
    )

funs_within : (cs : List Compiled) (n : ℕ) → length (concat (map compiled_text cs)) < n → All (λ c. length c.code < n) cs
funs_within [] n h = All-nil (λ c. length c.code < n)
funs_within (c ∷ cs) n h =
    let both = length-append (compiled_text c) (concat (map compiled_text cs)) in
    All-cons (λ c. length c.code < n) c cs (omega (arith, h, both, fun_within c)) (funs_within cs n (omega (arith, h, both)))

pub listing_short : (text : List ℕ) (cs : List Compiled) → IsListing text cs → length text < 2 ^ 32 → All IsShort cs
listing_short text cs h l =
    funs_within cs (2 ^ 32) (omega (arith, l, ap length h.1, length-append (codes "jasmin-listing 1\n") (concat (map compiled_text cs))))

filter_shorter : (p : ℕ → Bool) (xs : List ℕ) → length (filter p xs) ≤ length xs
filter_shorter p [] = omega arith
filter_shorter p (x ∷ xs) = by (p x) (filter_shorter p xs)
  where
    by : (b : Bool) → length (filter p xs) ≤ length xs → length (cond b (x ∷ filter p xs) (filter p xs)) ≤ suc (length xs)
    by true h = omega (arith, h)
    by false h = omega (arith, h)

pub hex_short : (text code : List ℕ) → IsHexOf text code → length text < 2 ^ 32 → length code < 2 ^ 32
hex_short text code h l = omega (arith, l, filter_shorter is_hex_digit text, (decode_of-ok (digits_of text) code h.digits).2)
