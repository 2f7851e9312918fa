-- Names, numbers, and words of tables.
use Rattle.std.proofs.Common.{◌≡◌, ℕ, zero, suc, ◌+◌, ◌-◌, ◌<◌, ◌≤◌, ◌^◌, Bool, true, false, not, ◌&&◌, ◌||◌, ◌==◌, List, [], ◌∷◌, ◌++◌, length, take, drop, get_or, Option, Some, None, Result, Ok, Err, refl, sym, ap, ◌∙◌, subst, arith, append_assoc, length-append, if◌then◌else◌, ⊎_elim, inl, inr}
use Rattle.std.specs.Prelude.{ℤ, pos, negsuc, codes, decimal, nat_lt}
use Rattle.std.specs.Fmt.{signed_decimal}
use Rattle.std.specs.Char.{is_ascii_alphabetic, is_ascii_digit}
use Rattle.std.specs.Str.{all_ascii_digits}
use Rattle.std.specs.Str.{IsAscii}
use Rattle.std.specs.Str.Parse.{digits_value, ParsesUnsigned}
use Rattle.std.specs.List.{list_all, take_while}
use Rattle.std.proofs.Math.Seq.{take-append_seam}
use Rattle.std.proofs.lemmas.List.{take-append-drop}
use Rattle.std.proofs.lemmas.Fmt.{decimal_is_IsNumeral, decimal-digits_value, first_decimal, decimal_digit, IsAscii-from_digits}
use Rattle.std.proofs.lemmas.Str.Parse.{IsNumeralModel, numerals_by_value, tells_all_ascii_digits, parse_digits}
use Rattle.std.proofs.lemmas.Bool.{and_parts, and_from, or_cases, or_left, or_right, not-true, not_from_false, ltb-true, ltb-false, lt-ltb, le-ltb, eqb-true, ne_eqb, or_from, or_parts, and_right}
use Rattle.jz_lex.specs.LexingWords.{begins, heads, begins_word, in_word, is_word, is_among, keywords}
use Rattle.jz_lex.specs.Identifiers.{IsIdentifier}
use Rattle.jz_lex.proofs.LexingWords.{by_cases, if_true, if_false, run, behind_ends, same_run, drop_self, word_ascii}
use Rattle.jz_lex.proofs.LexingWords as runs
use Rattle.jz_listing.specs.Listable.{offset_fits}
use Rattle.jz_listing_lines.specs.InnerReaders.{Answer, Reader, ◌>>=◌, is_identifier, is_written, is_number, value_of, front_of, rest_of, name, number, small_number, signed_number, negative, positive, behind, literal}
use Rattle.jz_listing_lines.proofs.ReaderLaws.{Reads, Always, some_same, none_some, bind_parts, behind_back, behind_only}

-- ---- runs of bytes
-- a run that ends is read whole
run_of : (test : ℕ → Bool) (w rest : List ℕ) → list_all test w ≡ true → heads test rest ≡ false → (front_of test (w ++ rest) ≡ w) × (rest_of test (w ++ rest) ≡ rest)
run_of test w rest h s =
    let r = run test (w ++ rest) in
    let same : w ≡ take_while test (w ++ rest) =
    same_run test w (take_while test (w ++ rest)) rest (runs.behind test (w ++ rest)) h r.1 s (behind_ends test (w ++ rest)) r.0 in
    (ap (λ z. take (length z) (w ++ rest)) (sym same) ∙ take-append_seam w rest, ap (λ z. drop (length z) (w ++ rest)) (sym same) ∙ drop_self w rest)

cut_at : (test : ℕ → Bool) (bs : List ℕ) → bs ≡ front_of test bs ++ rest_of test bs
cut_at test bs = sym (take-append-drop (length (take_while test bs)) bs)

front_passes : (test : ℕ → Bool) (bs : List ℕ) → list_all test (front_of test bs) ≡ true
front_passes test bs =
    let r = run test bs in
    let same : front_of test bs ≡ take_while test bs =
    ap (take (length (take_while test bs))) r.0 ∙ take-append_seam (take_while test bs) (runs.behind test bs) in
    ap (list_all test) same ∙ r.1

-- ---- names
begins_in_word : (b : ℕ) → begins_word b ≡ true → in_word b ≡ true
unfolding begins_word in_word
begins_in_word b h = ⊎_elim
    (λ a. or_left (is_ascii_alphabetic b || is_ascii_digit b) (b == 95) (or_left (is_ascii_alphabetic b) (is_ascii_digit b) a))
    (λ u. or_right (is_ascii_alphabetic b || is_ascii_digit b) (b == 95) u)
    (or_cases (is_ascii_alphabetic b) (b == 95) h)

pub word_bytes : (w : List ℕ) → is_word w ≡ true → list_all in_word w ≡ true
word_bytes [] h = refl
word_bytes (b ∷ bs) h = let p = and_parts (begins_word b) (list_all in_word bs) h in and_from (in_word b) (list_all in_word bs) (begins_in_word b p.0) p.1

to_identifier : (w : List ℕ) → list_all in_word w ≡ true → is_identifier w ≡ true → IsIdentifier w
to_identifier [] a h = absurd (let no : ⊥ = cc in no)
to_identifier (b ∷ bs) a h =
    let p = and_parts (begins_word b) (not (is_among keywords (b ∷ bs))) h in
    (and_from (begins_word b) (list_all in_word bs) p.0 (and_parts (in_word b) (list_all in_word bs) a).1, not-true (is_among keywords (b ∷ bs)) p.1)

from_identifier : (w : List ℕ) → IsIdentifier w → is_identifier w ≡ true
from_identifier [] h = absurd (let e : false ≡ true = h.0 in let no : ⊥ = cc in no)
from_identifier (b ∷ bs) h =
    and_from (begins_word b) (not (is_among keywords (b ∷ bs))) (and_parts (begins_word b) (list_all in_word bs) h.0).0 (not_from_false (is_among keywords (b ∷ bs)) h.1)

word_of : (w : List ℕ) → list_all in_word w ≡ true → heads begins_word w ≡ true → is_word w ≡ true
word_of [] a h = absurd (let no : ⊥ = cc in no)
word_of (b ∷ bs) a h = and_from (begins_word b) (list_all in_word bs) h (and_parts (in_word b) (list_all in_word bs) a).1

pub front_ascii : (bs : List ℕ) → heads begins_word (front_of in_word bs) ≡ true → IsAscii (front_of in_word bs)
front_ascii bs h = word_ascii (front_of in_word bs) (word_of (front_of in_word bs) (front_passes in_word bs) h)

abbrev pub NoWord : List ℕ → Type 0
NoWord rest = heads in_word rest ≡ false

abbrev NameAnswer : Type 0
NameAnswer = Answer (List ℕ)

abbrev found_name : List ℕ → NameAnswer
found_name bs = Some (front_of in_word bs, rest_of in_word bs)

name_only : (bs rest w : List ℕ) → if◌then◌else◌ {A = NameAnswer} (is_identifier (front_of in_word bs)) (found_name bs) None ≡ Some (w, rest) → (bs ≡ w ++ rest) × IsIdentifier w
name_only bs rest w e = by_cases ((bs ≡ w ++ rest) × IsIdentifier w) (is_identifier (front_of in_word bs))
    (λ h.
    let Is : List ℕ × List ℕ → Type 0 = λ z. (bs ≡ z.0 ++ z.1) × IsIdentifier z.0 in
    let made : (bs ≡ front_of in_word bs ++ rest_of in_word bs) × IsIdentifier (front_of in_word bs) =
    (cut_at in_word bs, to_identifier (front_of in_word bs) (front_passes in_word bs) h) in
    subst Is (some_same (front_of in_word bs, rest_of in_word bs) (w, rest) (sym (if_true {A = NameAnswer} (is_identifier (front_of in_word bs)) (found_name bs) None h) ∙ e)) made)
    (λ h. none_some (w, rest) _ (sym (if_false {A = NameAnswer} (is_identifier (front_of in_word bs)) (found_name bs) None h) ∙ e))

name_back : (w rest : List ℕ) → IsIdentifier w → NoWord rest
    → if◌then◌else◌ {A = NameAnswer} (is_identifier (front_of in_word (w ++ rest))) (found_name (w ++ rest)) None ≡ Some (w, rest)
name_back w rest h s =
    let r = run_of in_word w rest (word_bytes w h.0) s in
    let same : found_name (w ++ rest) ≡ Some (w, rest) = λ i. Some (r.0 i, r.1 i) in
    if_true {A = NameAnswer} (is_identifier (front_of in_word (w ++ rest))) (found_name (w ++ rest)) None (ap is_identifier r.0 ∙ from_identifier w h) ∙ same

pub name_reads : Reads name (λ w. w) IsIdentifier NoWord
unfolding name
name_reads = record { back = name_back; only = name_only }

-- ---- numbers
own : IsNumeralModel (λ ds. all_ascii_digits ds ≡ true) (digits_value 10)
own = numerals_by_value (λ ds. all_ascii_digits ds ≡ true) tells_all_ascii_digits

same_digits : (ds : List ℕ) → all_ascii_digits ds ≡ list_all is_ascii_digit ds
same_digits [] = refl
same_digits (d ∷ ds) = ap (λ z. is_ascii_digit d && z) (same_digits ds)

-- digits without a leading zero, in other words
to_written : (ds : List ℕ) → 0 < length ds → (get_or ds 0 0 ≡ 48 → length ds ≡ 1) → is_written ds ≡ true
to_written [] h k = absurd (omega (arith, h))
to_written (d ∷ []) h k = refl
to_written (d ∷ (e ∷ ds)) h k = by_cases (not (d == 48) ≡ true) (d == 48)
    (λ z. absurd (omega (arith, k (eqb-true d 48 z))))
    (λ z. ap not z)

written_some : (ds : List ℕ) → is_written ds ≡ true → 0 < length ds
written_some [] h = absurd (let no : ⊥ = cc in no)
written_some (d ∷ ds) h = omega arith

written_lead : (ds : List ℕ) → is_written ds ≡ true → get_or ds 0 0 ≡ 48 → length ds ≡ 1
written_lead [] h k = absurd (let no : ⊥ = cc in no)
written_lead (d ∷ []) h k = omega arith
written_lead (d ∷ (e ∷ ds)) h k =
    absurd (let same : not (48 == 48) ≡ true = ap (λ z. not (z == 48)) (sym k) ∙ h in let no : false ≡ true = same in let gone : ⊥ = cc in gone)

decimal_lead : (n : ℕ) → n < 2 ^ 64 → get_or (decimal n) 0 0 ≡ 48 → length (decimal n) ≡ 1
decimal_lead zero h k = ap length (decimal_digit 0 (omega arith))
decimal_lead (suc n) h k = absurd (omega (arith, first_decimal (suc n) (omega arith) h, k))

decimal_number : (n : ℕ) → n < 2 ^ 64 → is_number (2 ^ 64) (decimal n) ≡ true
decimal_number n h =
    let d = decimal_is_IsNumeral n h in
    and_from (is_written (decimal n)) (nat_lt (digits_value 10 (decimal n)) (2 ^ 64)) (to_written (decimal n) d.0.0 (decimal_lead n h))
    (lt-ltb (digits_value 10 (decimal n)) (2 ^ 64) (subst (λ z. z < 2 ^ 64) (sym d.1) h))

pub decimal_digits : (n : ℕ) → n < 2 ^ 64 → list_all is_ascii_digit (decimal n) ≡ true
decimal_digits n h = sym (same_digits (decimal n)) ∙ own.from (decimal n) (decimal_is_IsNumeral n h).0.1

printed : (w : List ℕ) → list_all is_ascii_digit w ≡ true → is_number (2 ^ 64) w ≡ true → (w ≡ decimal (digits_value 10 w)) × (digits_value 10 w < 2 ^ 64)
printed w h k =
    let p = and_parts (is_written w) (nat_lt (digits_value 10 w) (2 ^ 64)) k in
    let small = ltb-true (digits_value 10 w) (2 ^ 64) p.1 in
    (sym (decimal-digits_value own w (same_digits w ∙ h) (written_some w p.0) (written_lead w p.0) small), small)

pub front_digits : (bs : List ℕ) → list_all is_ascii_digit (front_of is_ascii_digit bs) ≡ true
front_digits bs = front_passes is_ascii_digit bs

pub digits_ascii : (ds : List ℕ) → list_all is_ascii_digit ds ≡ true → IsAscii ds
digits_ascii ds h = IsAscii-from_digits ds (own.to ds (same_digits ds ∙ h))

-- what the parser of the library answers
pub not_parsed : (E : Type 0) (w : List ℕ) (e : E) → list_all is_ascii_digit w ≡ true → is_written w ≡ true → ParsesUnsigned {E = E} 64 10 w (Err e) → value_of w ≡ None
not_parsed E w e h k p =
    let o = parse_digits own 64 w (Err e) p (same_digits w ∙ h) in
    by_cases (value_of w ≡ None) (nat_lt (digits_value 10 w) (2 ^ 64))
    (λ b. absurd (o (written_some w k, ltb-true (digits_value 10 w) (2 ^ 64) b)))
    (λ b. if_false (is_number (2 ^ 64) w) (Some (digits_value 10 w)) None (and_right (is_written w) (nat_lt (digits_value 10 w) (2 ^ 64)) b))

abbrev pub NoDigit : List ℕ → Type 0
NoDigit rest = heads is_ascii_digit rest ≡ false

abbrev pub IsShort : ℕ → Type 0
IsShort n = n < 2 ^ 64

abbrev NumberAnswer : Type 0
NumberAnswer = Answer ℕ

abbrev found_number : List ℕ → NumberAnswer
found_number bs = Some (digits_value 10 (front_of is_ascii_digit bs), rest_of is_ascii_digit bs)

number_only : (bs rest : List ℕ) (n : ℕ)
    → if◌then◌else◌ {A = NumberAnswer} (is_number (2 ^ 64) (front_of is_ascii_digit bs)) (found_number bs) None ≡ Some (n, rest) → (bs ≡ decimal n ++ rest) × (n < 2 ^ 64)
number_only bs rest n e = by_cases ((bs ≡ decimal n ++ rest) × (n < 2 ^ 64)) (is_number (2 ^ 64) (front_of is_ascii_digit bs))
    (λ h.
    let w = front_of is_ascii_digit bs in
    let p = printed w (front_passes is_ascii_digit bs) h in
    let Is : ℕ × List ℕ → Type 0 = λ z. (bs ≡ decimal z.0 ++ z.1) × (z.0 < 2 ^ 64) in
    let made : (bs ≡ decimal (digits_value 10 w) ++ rest_of is_ascii_digit bs) × (digits_value 10 w < 2 ^ 64) =
    (cut_at is_ascii_digit bs ∙ ap (λ z. z ++ rest_of is_ascii_digit bs) p.0, p.1) in
    subst Is (some_same (digits_value 10 w, rest_of is_ascii_digit bs) (n, rest) (sym (if_true {A = NumberAnswer} (is_number (2 ^ 64) w) (found_number bs) None h) ∙ e)) made)
    (λ h. none_some (n, rest) _ (sym (if_false {A = NumberAnswer} (is_number (2 ^ 64) (front_of is_ascii_digit bs)) (found_number bs) None h) ∙ e))

number_back : (n : ℕ) (rest : List ℕ) → n < 2 ^ 64 → NoDigit rest
    → if◌then◌else◌ {A = NumberAnswer} (is_number (2 ^ 64) (front_of is_ascii_digit (decimal n ++ rest))) (found_number (decimal n ++ rest)) None ≡ Some (n, rest)
number_back n rest h s =
    let r = run_of is_ascii_digit (decimal n) rest (decimal_digits n h) s in
    let same : found_number (decimal n ++ rest) ≡ Some (digits_value 10 (decimal n), rest) = λ i. Some (digits_value 10 (r.0 i), r.1 i) in
    let value : ◌≡◌ {A = NumberAnswer} (Some (digits_value 10 (decimal n), rest)) (Some (n, rest)) = λ i. Some ((decimal_is_IsNumeral n h).1 i, rest) in
    if_true {A = NumberAnswer} (is_number (2 ^ 64) (front_of is_ascii_digit (decimal n ++ rest))) (found_number (decimal n ++ rest)) None (ap (is_number (2 ^ 64)) r.0 ∙ decimal_number n h) ∙ same ∙ value

pub number_reads : Reads number decimal IsShort NoDigit
unfolding number
number_reads = record { back = number_back; only = number_only }

pub small_number_reads : Reads small_number decimal (λ n. n < 2 ^ 32) NoDigit
unfolding small_number
small_number_reads = record {
  back = λ n rest h s.
      ap (λ o. o >>= λ x. if nat_lt x.0 (2 ^ 32) then Some x else None) (number_reads.back n rest (omega (arith, h)) s)
      ∙ if_true (nat_lt n (2 ^ 32)) (Some (n, rest)) None (lt-ltb n (2 ^ 32) h);
  only = λ bs rest n e.
      (let x = bind_parts (number bs) (λ x. if nat_lt x.0 (2 ^ 32) then Some x else None) (n, rest) e in
      let a = number_reads.only bs x.0.1 x.0.0 x.1 in
      by_cases ((bs ≡ decimal n ++ rest) × (n < 2 ^ 32)) (nat_lt x.0.0 (2 ^ 32))
      (λ h.
      let Is : ℕ × List ℕ → Type 0 = λ z. (bs ≡ decimal z.0 ++ z.1) × (z.0 < 2 ^ 32) in
      let made : (bs ≡ decimal x.0.0 ++ x.0.1) × (x.0.0 < 2 ^ 32) = (a.0, ltb-true x.0.0 (2 ^ 32) h) in
      subst Is (some_same x.0 (n, rest) (sym (if_true (nat_lt x.0.0 (2 ^ 32)) (Some x.0) None h) ∙ x.2)) made)
      (λ h. none_some (n, rest) _ (sym (if_false (nat_lt x.0.0 (2 ^ 32)) (Some x.0) None h) ∙ x.2)));
}

-- ---- numbers with a sign
no_minus : (ds : List ℕ) (rest : List ℕ) → list_all is_ascii_digit ds ≡ true → 0 < length ds → begins (codes "-") (ds ++ rest) ≡ false
no_minus [] rest h k = absurd (omega (arith, k))
no_minus (d ∷ ds) rest h k = by_cases _ (45 == d)
    (λ e. absurd (let same : 45 ≡ d = eqb-true 45 d e in let digit : is_ascii_digit 45 ≡ true = ap is_ascii_digit same ∙ (and_parts (is_ascii_digit d) (list_all is_ascii_digit ds) h).0 in let no : false ≡ true = digit in (let gone : ⊥ = cc in gone)))
    (λ e. ap (λ z. z && true) e)

abbrev SignedAnswer : Type 0
SignedAnswer = Answer ℤ

below : (n : ℕ) → n < 2 ^ 63 → ((suc n == 0) || nat_lt (2 ^ 63) (suc n)) ≡ false
below n h = or_from (suc n == 0) (nat_lt (2 ^ 63) (suc n)) (ne_eqb (suc n) 0 (λ e. omega (arith, e))) (le-ltb (2 ^ 63) (suc n) (omega (arith, h)))

above : (n : ℕ) → ((suc n == 0) || nat_lt (2 ^ 63) (suc n)) ≡ false → n < 2 ^ 63
above n h = let p = or_parts (suc n == 0) (nat_lt (2 ^ 63) (suc n)) h in omega (arith, ltb-false (2 ^ 63) (suc n) p.1)

negative_is : (n : ℕ) (rest : List ℕ) → n < 2 ^ 63 → negative (suc n, rest) ≡ Some (negsuc n, rest)
negative_is n rest h =
    let less : suc n - 1 ≡ n = omega arith in
    let made : SignedAnswer = Some (negsuc (suc n - 1), rest) in
    let same : ◌≡◌ {A = SignedAnswer} (Some (negsuc (suc n - 1), rest)) (Some (negsuc n, rest)) = λ i. Some (negsuc (less i), rest) in
    if_false {A = SignedAnswer} ((suc n == 0) || nat_lt (2 ^ 63) (suc n)) None made (below n h) ∙ same

negative_only : (v : ℕ) (more : List ℕ) (z : ℤ) (rest : List ℕ) → negative (v, more) ≡ Some (z, rest) → (n : ℕ) × (v ≡ suc n) × (n < 2 ^ 63) × (negsuc n ≡ z) × (more ≡ rest)
negative_only zero more z rest e = none_some (z, rest) _ e
negative_only (suc n) more z rest e =
    let made : SignedAnswer = Some (negsuc (suc n - 1), more) in
    by_cases ((m : ℕ) × (suc n ≡ suc m) × (m < 2 ^ 63) × (negsuc m ≡ z) × (more ≡ rest)) ((suc n == 0) || nat_lt (2 ^ 63) (suc n))
    (λ h. none_some (z, rest) _ (sym (if_true {A = SignedAnswer} ((suc n == 0) || nat_lt (2 ^ 63) (suc n)) None made h) ∙ e))
    (λ h.
    let same = some_same (negsuc (suc n - 1), more) (z, rest) (sym (if_false {A = SignedAnswer} ((suc n == 0) || nat_lt (2 ^ 63) (suc n)) None made h) ∙ e) in
    let less : suc n - 1 ≡ n = omega arith in
    (n, refl, above n h, ap negsuc (sym less) ∙ ap (λ p. p.0) same, ap (λ p. p.1) same))

pub signed_reads : Reads signed_number signed_decimal (λ z. offset_fits z ≡ true) NoDigit
unfolding signed_number
signed_reads = record { back = λ z rest h s. signed_back z rest h s; only = λ bs rest z e. signed_only bs rest z e }
  where
    signed_back : (z : ℤ) (rest : List ℕ) → offset_fits z ≡ true → NoDigit rest
        → (if begins (codes "-") (signed_decimal z ++ rest) then behind (codes "-") number (signed_decimal z ++ rest) >>= negative else number (signed_decimal z ++ rest) >>= positive) ≡ Some (z, rest)
    signed_back (pos n) rest h s =
        let small : n < 2 ^ 63 = ltb-true n (2 ^ 63) h in
        let d = decimal_is_IsNumeral n (omega (arith, small)) in
        if_false (begins (codes "-") (decimal n ++ rest)) _ _ (no_minus (decimal n) rest (decimal_digits n (omega (arith, small))) d.0.0)
        ∙ ap (λ o. o >>= positive) (number_reads.back n rest (omega (arith, small)) s)
        ∙ if_true (nat_lt n (2 ^ 63)) (Some (pos n, rest)) None h
    signed_back (negsuc n) rest h s =
        let small : n < 2 ^ 63 = ltb-true n (2 ^ 63) h in
        ap (λ o. o >>= negative) (behind_back (codes "-") number (decimal (suc n) ++ rest) ∙ number_reads.back (suc n) rest (omega (arith, small)) s)
        ∙ negative_is n rest small

    signed_only : (bs rest : List ℕ) (z : ℤ)
        → (if begins (codes "-") bs then behind (codes "-") number bs >>= negative else number bs >>= positive) ≡ Some (z, rest) → (bs ≡ signed_decimal z ++ rest) × (offset_fits z ≡ true)
    signed_only bs rest z e = by_cases ((bs ≡ signed_decimal z ++ rest) × (offset_fits z ≡ true)) (begins (codes "-") bs)
        (λ h.
        let x = bind_parts (behind (codes "-") number bs) negative (z, rest) (sym (if_true (begins (codes "-") bs) (behind (codes "-") number bs >>= negative) (number bs >>= positive) h) ∙ e) in
        let b = behind_only (codes "-") number bs x.0 x.1 in
        let a = number_reads.only b.0 x.0.1 x.0.0 b.2 in
        let n = negative_only x.0.0 x.0.1 z rest x.2 in
        let made : (bs ≡ signed_decimal (negsuc n.0) ++ rest) × (offset_fits (negsuc n.0) ≡ true) =
        (b.1 ∙ ap (λ y. 45 ∷ y) (a.0 ∙ (λ i. decimal (n.1 i) ++ n.4 i)), lt-ltb n.0 (2 ^ 63) n.2) in
        let Is : ℤ → Type 0 = λ y. (bs ≡ signed_decimal y ++ rest) × (offset_fits y ≡ true) in
        subst Is n.3 made)
        (λ h.
        let x = bind_parts (number bs) positive (z, rest) (sym (if_false (begins (codes "-") bs) (behind (codes "-") number bs >>= negative) (number bs >>= positive) h) ∙ e) in
        let a = number_reads.only bs x.0.1 x.0.0 x.1 in
        by_cases ((bs ≡ signed_decimal z ++ rest) × (offset_fits z ≡ true)) (nat_lt x.0.0 (2 ^ 63))
        (λ k.
        let Is : ℤ × List ℕ → Type 0 = λ y. (bs ≡ signed_decimal y.0 ++ y.1) × (offset_fits y.0 ≡ true) in
        let made : (bs ≡ decimal x.0.0 ++ x.0.1) × (nat_lt x.0.0 (2 ^ 63) ≡ true) = (a.0, k) in
        subst Is (some_same (pos x.0.0, x.0.1) (z, rest) (sym (if_true (nat_lt x.0.0 (2 ^ 63)) (Some (pos x.0.0, x.0.1)) None k) ∙ x.2)) made)
        (λ k. none_some (z, rest) _ (sym (if_false (nat_lt x.0.0 (2 ^ 63)) (Some (pos x.0.0, x.0.1)) None k) ∙ x.2)))
