-- The value of digits, one after the other.
use Rattle.std.proofs.Common.{◌≡◌, ◌<◌, ◌≤◌, ℕ, suc, ◌+◌, ◌*◌, ◌^◌, List, [], ◌∷◌, true, false, nat_lt, map, drop, length, get_or, Option, Some, None, refl, sym, ap, ◌∙◌, subst, arith, drop-cons, add-one}
use Rattle.std.specs.List.{filter}
use Rattle.std.specs.Char.{digit_value}
use Rattle.std.specs.Int.Digits.{number_from_digits_after}
use Rattle.std.proofs.lemmas.Int.Digits.{number_after_ge}
use Rattle.std.proofs.Math.Seq.{drop-length}
use Rattle.std.proofs.lemmas.Bool.{lt-ltb, le-ltb}
use Rattle.jz_lex.specs.LexingWords.{digits_number}
use Rattle.jz_lex.specs.InnerFront.{wide_number}

-- the number that these bytes write behind the digits of n
unfoldable pub rest_value : ℕ → ℕ → List ℕ → ℕ
rest_value base n bs = number_from_digits_after base n (map digit_value (filter (λ b. nat_lt (digit_value b) base) bs))

pub rest_first : (base : ℕ) (bs : List ℕ) → rest_value base 0 bs ≡ digits_number base bs
unfolding rest_value
rest_first base bs = refl

digit_more : (base n b : ℕ) (bs : List ℕ) → nat_lt (digit_value b) base ≡ true → rest_value base n (b ∷ bs) ≡ rest_value base (n * base + digit_value b) bs
unfolding rest_value
digit_more base n b bs h = rw h refl

digit_none : (base n b : ℕ) (bs : List ℕ) → nat_lt (digit_value b) base ≡ false → rest_value base n (b ∷ bs) ≡ rest_value base n bs
unfolding rest_value
digit_none base n b bs h = rw h refl

pub rest_next : (base n : ℕ) (bs : List ℕ) (i : ℕ) → i < length bs → digit_value (get_or bs i 0) < base → rest_value base n (drop i bs) ≡ rest_value base (n * base + digit_value (get_or bs i 0)) (drop (i + 1) bs)
rest_next base n bs i h d = rw (add-one, drop-cons bs i 0) (digit_more base n (get_or bs i 0) (drop (suc i) bs) (lt-ltb _ _ d))

pub rest_skip : (base n : ℕ) (bs : List ℕ) (i : ℕ) → i < length bs → base ≤ digit_value (get_or bs i 0) → rest_value base n (drop i bs) ≡ rest_value base n (drop (i + 1) bs)
rest_skip base n bs i h d = rw (add-one, drop-cons bs i 0) (digit_none base n (get_or bs i 0) (drop (suc i) bs) (le-ltb _ _ d))

pub rest_least : (base n : ℕ) (bs : List ℕ) → 0 < base → n ≤ rest_value base n bs
unfolding rest_value
rest_least base n bs h = number_after_ge base n (map digit_value (filter (λ b. nat_lt (digit_value b) base) bs)) h

pub rest_none : (base n : ℕ) → rest_value base n [] ≡ n
unfolding rest_value
rest_none base n = refl

pub too_wide : (n : ℕ) → 2 ^ 128 ≤ n → wide_number n ≡ None
too_wide n h = rw (le-ltb n (2 ^ 128) h) refl

-- the whole is too wide where the digits so far are
pub over : (base n d : ℕ) (bs : List ℕ) (i : ℕ) → i < length bs → 0 < base → d ≡ digit_value (get_or bs i 0) → d < base → 2 ^ 128 ≤ n * base + d → rest_value base n (drop i bs) ≡ digits_number base bs → wide_number (digits_number base bs) ≡ None
over base n d bs i h z e l w r =
    let step = rest_next base n bs i h (subst (λ x. x < base) e l) in
    let least = rest_least base (n * base + digit_value (get_or bs i 0)) (drop (i + 1) bs) z in
    let same : rest_value base (n * base + digit_value (get_or bs i 0)) (drop (i + 1) bs) ≡ digits_number base bs = sym step ∙ r in
    too_wide (digits_number base bs) (omega (arith, least, same, e, w))

pub next_kept : (base n m d : ℕ) (bs : List ℕ) (i : ℕ) → i < length bs → d ≡ digit_value (get_or bs i 0) → d < base → m ≡ n * base + d → rest_value base n (drop i bs) ≡ digits_number base bs → rest_value base m (drop (i + 1) bs) ≡ digits_number base bs
next_kept base n m d bs i h e l v r =
    ap (λ x. rest_value base x (drop (i + 1) bs)) (v ∙ ap (λ x. n * base + x) e) ∙ sym (rest_next base n bs i h (subst (λ x. x < base) e l)) ∙ r

pub skip_kept : (base n m : ℕ) (bs : List ℕ) (i : ℕ) → i < length bs → base ≤ digit_value (get_or bs i 0) → m ≡ n → rest_value base n (drop i bs) ≡ digits_number base bs → rest_value base m (drop (i + 1) bs) ≡ digits_number base bs
skip_kept base n m bs i h l v r =
    ap (λ x. rest_value base x (drop (i + 1) bs)) v ∙ sym (rest_skip base n bs i h l) ∙ r

pub rest_last : (base n : ℕ) (bs : List ℕ) (i : ℕ) → i ≡ length bs → n < 2 ^ 128 → rest_value base n (drop i bs) ≡ digits_number base bs → ◌≡◌ {A = Option ℕ} (Some n) (wide_number (digits_number base bs))
rest_last base n bs i h l r =
    let e : rest_value base n (drop i bs) ≡ n = ap (λ x. rest_value base n (drop x bs)) h ∙ ap (rest_value base n) (drop-length bs) ∙ rest_none base n in
    let f : digits_number base bs ≡ n = sym r ∙ e in
    rw f (rw (lt-ltb n (2 ^ 128) l) refl)
