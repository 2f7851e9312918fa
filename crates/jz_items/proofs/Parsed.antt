-- Numbers among the words.
use Rattle.std.proofs.Common.{◌≡◌, ℕ, suc, ◌^◌, ◌<◌, ◌≤◌, Bool, true, false, List, [], ◌∷◌, length, refl, ap, arith, Option, Some, None, Result, Ok, Err, if◌then◌else◌}
use Rattle.std.specs.Prelude.{slice_index, ◌==◌, ◌&&◌, nat_lt, not}
use Rattle.std.proofs.lemmas.Bool.{and_parts, ltb-true}
use Rattle.std.proofs.lemmas.Bool.Decides.{nat_tests}
use Rattle.std.specs.List.{list_all}
use Rattle.std.specs.Result.{result_ok}
use Rattle.std.specs.Char.{digit_value}
use Rattle.std.specs.Str.Parse.{AllDigits, IsNumeral, digits_value, without_leading_plus, ParsesUnsigned}
use Rattle.jz_items.specs.Numbers.{is_numeral, numeral}

-- digits, as a test and as a fact
pub digits_test : (base : ℕ) (ds : List ℕ) → AllDigits base ds → list_all (λ c. nat_lt (digit_value c) base) ds ≡ true
digits_test base [] h = refl
digits_test base (c ∷ cs) h =
    let d : nat_lt (digit_value c) base ≡ true = (let k : digit_value c < base = h.0 in grind (arith, nat_tests)) in
    rw (d, digits_test base cs h.1) refl

pub digits_fact : (base : ℕ) (ds : List ℕ) → list_all (λ c. nat_lt (digit_value c) base) ds ≡ true → AllDigits base ds
digits_fact base [] h = tt
digits_fact base (c ∷ cs) h =
    let p = and_parts _ _ h in (ltb-true (digit_value c) base p.0, digits_fact base cs p.1)

numeral_test : (base : ℕ) (ds : List ℕ) → IsNumeral base ds → is_numeral base ds ≡ true
numeral_test base [] h = absurd (omega (arith, h.0))
numeral_test base (c ∷ cs) h =
    let e : (suc (length cs) == 0) ≡ false = grind (arith, nat_tests) in rw e (digits_test base (c ∷ cs) h.1)

numeral_fact : (base : ℕ) (ds : List ℕ) → is_numeral base ds ≡ true → IsNumeral base ds
numeral_fact base [] h = cc
numeral_fact base (c ∷ cs) h =
    (omega arith, digits_fact base (c ∷ cs) (and_parts _ _ h).1)

no_case : (base : ℕ) (ds : List ℕ) (b c : Bool) → is_numeral base ds ≡ b → nat_lt (digits_value base ds) (2 ^ 64) ≡ c
    → ((IsNumeral base ds × (digits_value base ds < 2 ^ 64)) → ⊥) → ◌≡◌ {A = Option ℕ} None (numeral base ds)
no_case base ds true true p q never = absurd (never (numeral_fact base ds p, ltb-true _ _ q))
no_case base ds true false p q never = rw (p, q) refl
no_case base ds false c p q never = rw p refl

-- what is parsed is the numeral
pub parsed : {E : Type 0} (base : ℕ) (ds : List ℕ) (r : Result ℕ E) → without_leading_plus ds ≡ ds
    → ParsesUnsigned 64 base ds r → result_ok r ≡ numeral base ds
parsed base ds (Ok n) same h =
    let numeral_is : IsNumeral base ds × (digits_value base ds < 2 ^ 64) = rw same at h.0 in
    let value : n ≡ digits_value base ds = rw same at h.1 in
    let p = numeral_test base ds numeral_is.0 in
    let q : nat_lt (digits_value base ds) (2 ^ 64) ≡ true = (let k = numeral_is.1 in grind (arith, nat_tests)) in
    rw (p, q) (ap Some value)
parsed base ds (Err e) same h =
    let never : (IsNumeral base ds × (digits_value base ds < 2 ^ 64)) → ⊥ = rw same at h in
    no_case base ds (is_numeral base ds) (nat_lt (digits_value base ds) (2 ^ 64)) refl refl never

pub no_plus : (ds : List ℕ) → (slice_index ds 0 == 43) ≡ false → without_leading_plus ds ≡ ds
no_plus ds h = rw h refl

-- a plus is no digit
pub plus_numeral : (base : ℕ) (ds : List ℕ) → 2 ≤ base → base ≤ 36 → (slice_index ds 0 == 43) ≡ true → ◌≡◌ {A = Option ℕ} None (numeral base ds)
plus_numeral base [] low high h = cc
plus_numeral base (c ∷ cs) low high h =
    let plus : c ≡ 43 = grind (arith, nat_tests) in
    let e : nat_lt (digit_value 43) base ≡ false = grind (arith, nat_tests) in
    rw (plus, e) (not_all (not (length (c ∷ cs) == 0)))
  where
    not_all : (b : Bool) → ◌≡◌ {A = Option ℕ} None (if b && false && nat_lt (digits_value base (43 ∷ cs)) (2 ^ 64) then Some (digits_value base (43 ∷ cs)) else None)
    not_all true = refl
    not_all false = refl
