-- Products and quotients of words (Intel SDM vol. 2, MUL, IMUL, DIV and IDIV).
use Rattle.std.specs.Prelude.{◌≡◌, ◌<◌, ◌⊎◌, ◌↔◌, ℕ, ◌+◌, ◌*◌, ◌/◌, ◌%◌, Bool, true, false, not, ◌==◌, nat_lt, if◌then◌else◌, Option, Some, None, List, [], ◌∷◌, ℤ, pos, ◌+ℤ◌, ◌-ℤ◌, ◌*ℤ◌, ◌<ℤ◌, ◌≤ℤ◌, unsigned_abs, int_div, int_rem}
use Rattle.std.specs.Int.{int_div_euclid}
use Rattle.jz_words.specs.declared.size.Size.{Size}
use Rattle.jz_words.specs.Sizes.{half, modulus, signed}
use Rattle.jz_words.specs.Words.{residue, signed_product}
use Rattle.x64_insn.specs.declared.answer.Answer.{Answer}
use Rattle.x64_insn.specs.declared.products.DoubleAnswer.{DoubleAnswer}
use Rattle.x64_insn.specs.declared.types.FlagVal.{FlagVal}
use Rattle.x64_insn.specs.declared.types.FlagVal.TheVariants.{Undefined}
use Rattle.x64_insn.specs.Answers.{flag, overflows}

-- ---- products
-- OF and CF say that the low word does not hold the product; SF, PF and ZF are undefined
abbrev pub product_flags : Bool → List FlagVal
product_flags more = flag more ∷ flag more ∷ Undefined ∷ Undefined ∷ Undefined ∷ []

-- both words of an unsigned product
unfoldable pub product_answer : Size → ℕ → ℕ → DoubleAnswer
product_answer s a b = record {
  high = a * b / modulus s;
  low = a * b % modulus s;
  flags = product_flags (not (a * b / modulus s == 0));
}

-- both words of a signed product; the high one is the product divided by the number of words,
-- rounded down
unfoldable pub signed_product_answer : Size → ℕ → ℕ → DoubleAnswer
signed_product_answer s a b = record {
  high = residue s (int_div_euclid (signed_product s a b) (pos (modulus s)));
  low = residue s (signed_product s a b);
  flags = product_flags (overflows s (signed_product s a b));
}

-- the low word of a signed product alone
unfoldable pub low_product_answer : Size → ℕ → ℕ → Answer
low_product_answer s a b = record {
  value = residue s (signed_product s a b);
  flags = product_flags (overflows s (signed_product s a b));
}

-- ---- quotients
-- all flags are undefined
abbrev pub no_flags : List FlagVal
no_flags = Undefined ∷ Undefined ∷ Undefined ∷ Undefined ∷ Undefined ∷ []

-- two words as one number, and as one signed number
abbrev pub double_word : Size → ℕ → ℕ → ℕ
double_word s high low = high * modulus s + low

abbrev pub signed_double_word : Size → ℕ → ℕ → ℤ
signed_double_word s high low = (signed s high *ℤ pos (modulus s)) +ℤ pos low

-- remainder and quotient of two words by a third, which is not 0, where a word holds the quotient
unfoldable pub quotient_answer : Size → ℕ → ℕ → ℕ → Option DoubleAnswer
quotient_answer s high low d =
    let n = double_word s high low in
    if d == 0 then None
    else if nat_lt (n / d) (modulus s)
    then Some (record { high = n % d; low = n / d; flags = no_flags })
    else None

-- the same of signed words: the quotient is rounded towards 0, and the remainder has the sign of
-- what is divided
unfoldable pub signed_quotient_answer : Size → ℕ → ℕ → ℕ → Option DoubleAnswer
signed_quotient_answer s high low d =
    let n = signed_double_word s high low in
    let e = signed s d in
    if d == 0 then None
    else if overflows s (int_div n e) then None
    else
    Some
    (record { high = residue s (int_rem n e); low = residue s (int_div n e); flags = no_flags })

-- ---- the same in plain arithmetic
-- two words that make the product of a and b, and of their signed readings
abbrev pub IsProduct : Size → ℕ → ℕ → DoubleAnswer → Type 0
IsProduct s a b r = (double_word s r.high r.low ≡ a * b) × (r.low < modulus s)

abbrev pub IsSignedProduct : Size → ℕ → ℕ → DoubleAnswer → Type 0
IsSignedProduct s a b r =
    (signed_double_word s r.high r.low ≡ signed_product s a b)
    × (r.high < modulus s)
    × (r.low < modulus s)

-- no signed word of the size is this number
abbrev pub IsNoWord : Size → ℤ → Type 0
IsNoWord s z = (z <ℤ (pos 0 -ℤ pos (half s))) ⊎ (pos (half s) ≤ℤ z)

-- OF and CF are set exactly where this holds, else clear
abbrev pub MarksOverflow : List FlagVal → Type 0 → Type 0
MarksOverflow flags Over =
    ((flags ≡ product_flags true) ↔ Over) × ((flags ≡ product_flags false) ↔ (Over → ⊥))

-- quotient and remainder of two words by d
abbrev pub IsQuotient : Size → ℕ → ℕ → ℕ → DoubleAnswer → Type 0
IsQuotient s high low d r = (double_word s high low ≡ r.low * d + r.high) × (r.high < d)

-- the same of signed readings: a remainder has the sign of what is divided
abbrev pub IsSignedQuotient : Size → ℕ → ℕ → ℕ → DoubleAnswer → Type 0
IsSignedQuotient s high low d r =
    (signed_double_word s high low ≡ (signed s r.low *ℤ signed s d) +ℤ signed s r.high)
    × (unsigned_abs (signed s r.high) < unsigned_abs (signed s d))
    × (pos 0 ≤ℤ signed_double_word s high low → pos 0 ≤ℤ signed s r.high)
    × (signed_double_word s high low ≤ℤ pos 0 → signed s r.high ≤ℤ pos 0)
